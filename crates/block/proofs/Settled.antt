-- WHAT `Option::ok_or` MAKES OF A CODE THAT WAS READ. Assumes nothing.
use mathlib.Core.Path.{◌≡◌, refl}
use Rattle.std.specs.Prelude.{Option, None, Some, ok_or}
use Rattle.codes.specs.declared.Code.{Code}
use Rattle.refusals.specs.declared.Refusal.TheVariants.{Code as NoCode}
use Rattle.block.specs.Refusals.{settled_by}

pub settled_ok_or : (o : Option Code) → settled_by o ≡ ok_or o NoCode
unfolding settled_by
settled_ok_or (Some c) = refl
settled_ok_or None = refl
