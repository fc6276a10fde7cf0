-- The panel of the arpeggio.
pub mod Arpeggio
