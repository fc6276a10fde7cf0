-- The slew walk: a walk on its way, the positions, the steps; a step's cost and the whole walk's, and the height's distance.
pub mod Onward
pub mod Places
pub mod Steps
pub mod HeldStep
pub mod ProductSign
pub mod Advances
pub mod LimitError
pub mod MostError
pub mod StepError
pub mod WalkError
pub mod WalkDrawn
