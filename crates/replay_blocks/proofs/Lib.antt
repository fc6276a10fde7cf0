-- What the loop needs: one number more.
pub mod Numbers
