-- `fits` is `length_fits`. Assumes nothing.
use borrow.Author.Tests.{le-leb, lt-leb}
use Rattle.strip.proofs.fits.Goals as goal

pub returns-then-n-ge-MIN_SAMPLES : goal.returns-then-n-ge-MIN_SAMPLES
returns-then-n-ge-MIN_SAMPLES c = simp (le-leb 2 _ c.if-n-ge-MIN_SAMPLES.true)

pub returns-else-n-ge-MIN_SAMPLES : goal.returns-else-n-ge-MIN_SAMPLES
returns-else-n-ge-MIN_SAMPLES c = simp (lt-leb 2 _ c.if-n-ge-MIN_SAMPLES.false)
