-- Quoted text as bytes: the code of each character, for text whose characters have codes below 128.
use Prim.Native.{Nat.ℕ, Char.code, String.{String, [] as []ˢ, ◌∷◌ as ◌∷ˢ◌}}
use Rattle.std.specs.Prelude.{List, [], ◌∷◌}

abbrev pub ascii : String → List ℕ
ascii []ˢ = []
ascii (c ∷ˢ s) = code c ∷ ascii s
