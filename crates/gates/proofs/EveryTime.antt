-- THE BARS OF EVERY GATE TIME: none at 0, and four at every other byte, which are its gates. At 255 a bar ends where the next one starts, and at 1 to 254 before that. Assumes nothing.
use mathlib.Core.Path.{◌≡◌, refl}
use mathlib.Core.Bool.{Bool, ◌&&◌}
use mathlib.Core.List.{[], ◌∷◌}
use Prim.Native.Nat.{ℕ, zero, suc, ◌≤◌, ◌<◌}
use native.Mathlib.Omega.{arith}
use lib.Dec.{T, eqb}
use lib.IntN.{pos}
use lib.Ieee.{Float, binary32, of_bits, of_int, add, div, le, eq}
use lib.Ieee.Fits.{and_l, and_r}
use borrow.Author.Tests.{ne_eqb}
use Rattle.lists.proofs.Every.{every, each}
use Rattle.settings.specs.Settings.{byte_of}
use Rattle.gates.specs.declared.Gate.{Gate}
use Rattle.gates.specs.Gates.{gate_of, closed, gates_of, bars_of, gate_at}
use Rattle.gates.proofs.OpenGates.{alike, alike_equal}

pub bars_0 : bars_of 0 ≡ record { places = closed ∷ closed ∷ closed ∷ closed ∷ []; count = 0 }
unfolding gates_of
bars_0 = refl

pub bars_from_1 : (b : ℕ) → 1 ≤ b → bars_of b ≡ record { places = gate_of b 0 ∷ gate_of b 1 ∷ gate_of b 2 ∷ gate_of b 3 ∷ []; count = 4 }
unfolding gates_of
bars_from_1 b l =
    let nonzero : b ≡ 0 → ⊥ = λ e. omega arith in
    simp (ne_eqb b 0 nonzero)

-- A bar of a whole step.
abbrev whole_step : ℕ → Gate
whole_step s = record { start = of_int binary32 (pos s); end = of_int binary32 (pos (suc s)) }

pub bars_255 : bars_of 255 ≡ record { places = whole_step 0 ∷ whole_step 1 ∷ whole_step 2 ∷ whole_step 3 ∷ []; count = 4 }
unfolding gate_of byte_of of_bits of_int add div
bars_255 = bars_from_1 255 (omega arith)

-- ---- where a bar ends beside the next one
-- Where bar s ends, and where the next one starts.
abbrev ending : ℕ → ℕ → Float
ending b s = (gate_at (bars_of b) s).end

abbrev next : ℕ → ℕ → Float
next b s = (gate_at (bars_of b) (suc s)).start

in_order : ℕ → ℕ → Bool
in_order b s = le (ending b s) (next b s) && alike (eq (ending b s) (next b s)) (eqb b 255)

all_in_order : T (every (λ b. every (in_order (suc b)) 3) 255)
unfolding every in_order alike gates_of gate_of byte_of of_bits of_int add div le eq
all_in_order = tt

-- A bar ends no later than the next one starts, and just there at 255 alone.
pub bars_in_order : (b s : ℕ) → 1 ≤ b → b < 256 → s < 3 → T (le (ending b s) (next b s)) × (eq (ending b s) (next b s) ≡ eqb b 255)
unfolding in_order
bars_in_order zero s l h k = let no : ⊥ = omega arith in absurd no
bars_in_order (suc b) s l h k =
    let t : T (in_order (suc b) s) = each (in_order (suc b)) 3 s (each (λ n. every (in_order (suc n)) 3) 255 b all_in_order (omega arith)) k in
    let before = le (ending (suc b) s) (next (suc b) s) in
    let at = eq (ending (suc b) s) (next (suc b) s) in
    (and_l before (alike at (eqb (suc b) 255)) t, alike_equal at (eqb (suc b) 255) (and_r before (alike at (eqb (suc b) 255)) t))
