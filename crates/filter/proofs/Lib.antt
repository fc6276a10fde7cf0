-- The filter's height lies near its exact height: the exponent, the logarithm, the peak, and all of it.
pub mod Exchange
pub mod Exponent
pub mod Resonance
pub mod RollOff
pub mod FilterError
