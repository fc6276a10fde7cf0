-- `captions` answers `answer_of` and leaves `captions_of`. Assumes nothing.
use mathlib.Core.Path.{sym, ◌∙◌}
use Rattle.strip.proofs.Lengths.{between}
use Rattle.captions.proofs.Writing.{refused, accepted}
use Rattle.captions.proofs.captions.Goals as goal

pub returns-then-not-fits : goal.returns-then-not-fits
returns-then-not-fits c = refused c.args.g.shape _ (sym c.fits.ensures ∙ c.if-not-fits.true)

pub write_captions-requires : goal.write_captions-requires
write_captions-requires c = between _ c.fits.ensures c.if-not-fits.false

pub returns : goal.returns
returns c =
    accepted c.args.g.shape c.args.out.now (sym c.fits.ensures ∙ c.if-not-fits.false) c.write_captions.ensures
