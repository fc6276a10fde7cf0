-- A text, computed from its characters. Assumes nothing.
use mathlib.Core.Path.{◌≡◌, refl}
use mathlib.Core.List.{[], ◌∷◌}
use Rattle.text.specs.Text.{ascii}

-- A text is its codes.
codes : ascii "<svg" ≡ 60 ∷ 115 ∷ 118 ∷ 103 ∷ []
codes = refl
