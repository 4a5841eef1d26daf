-- Texts as lists of bytes. Assumes nothing: these are definitions.
use Rattle.std.specs.Prelude.{ℕ, ◌-◌, Bool, true, false, ◌&&◌, List, [], ◌∷◌, eqb, leb, take, drop}
use Prim.Native.String.{String}
use Prim.Native.Char.{Char, code}

-- an ASCII text as its bytes
abbrev pub ascii : String → List ℕ
ascii String.[] = []
ascii (String.◌∷◌ c s) = code c ∷ ascii s

-- whether a byte is this ASCII character
abbrev pub is : Char → ℕ → Bool
is c b = eqb b (code c)

-- whether a byte lies between two ASCII characters, or is one of them
abbrev pub between : Char → Char → ℕ → Bool
between c d b = leb (code c) b && leb b (code d)

-- whether two texts have the same bytes
abbrev pub same : List ℕ → List ℕ → Bool
same [] [] = true
same [] (y ∷ ys) = false
same (x ∷ xs) [] = false
same (x ∷ xs) (y ∷ ys) = eqb x y && same xs ys

-- the bytes of a text from one place to another, as far as the text goes
abbrev pub bytes_between : List ℕ → ℕ → ℕ → List ℕ
bytes_between text first end = take (end - first) (drop first text)
