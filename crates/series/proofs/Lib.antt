-- Polynomials for the analyser, nonnegative fractions, the slope of a polynomial, and the test of a row of outside numbers.
pub mod SeriesExpr
pub mod Nonnegative
pub mod PolynomialSlope
pub mod Neighbours
pub mod Rows
