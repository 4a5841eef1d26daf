-- `first` takes the first of a table's whole rows. Assumes nothing.
use Rattle.std.proofs.Common.{◌≡◌, ℕ, zero, suc, ◌/◌, ◌<◌, ◌≤◌, min, List, ◌∷◌, length, take, drop, refl, sym, ap, ◌∙◌, arith}
use Rattle.std.specs.Simd.{first_chunks}
use Rattle.rows.specs.Rows.{whole_rows}
use Rattle.rows.proofs.first.Goals as goal

-- the first k of m rows
take_rows : (n k m : ℕ) (table : List ℕ) → k ≤ m → take k (first_chunks n m table) ≡ first_chunks n k table
take_rows n zero m table within = refl
take_rows n (suc k) zero table within = absurd (omega arith)
take_rows n (suc k) (suc m) table within = ap (λ rows. take n table ∷ rows) (take_rows n k m (drop n table) (omega arith))

-- where rows have numbers
whole : (n : ℕ) (table : List ℕ) → 0 < n → whole_rows n table ≡ length table / n
whole zero table some = absurd (omega arith)
whole (suc n) table some = refl

pub returns : goal.returns
returns g c =
    let n = g.row.N in
    let table = c.args.table.now in
    let some : 0 < n = omega arith in
    let count : c.min.result ≡ min c.args.n (length table / n) = c.min.ensures ∙ ap (λ k. min c.args.n k) c.as_chunks.ensures.front_len in
    let within : c.min.result ≤ length table / n = omega arith in
    ap (λ rows. take c.min.result rows) c.as_chunks.ensures.front
    ∙ take_rows n c.min.result (length table / n) table within
    ∙ ap (λ k. first_chunks n k table) (count ∙ ap (λ k. min c.args.n k) (sym (whole n table some)))
