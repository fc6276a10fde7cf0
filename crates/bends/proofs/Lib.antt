-- What one computed test over the chart says of each entry; what a distance by 64th powers says; the definition against outside numbers.
pub mod Entries
pub mod Powers
pub mod Examples
