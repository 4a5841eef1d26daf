-- What was written, put together as the definitions are: nothing, the next token, an error, one after another, a node, a choice.
-- Assumes nothing.
use mathlib.Core.Path.{◌≡◌, refl, sym, ap, ◌∙◌, subst}
use mathlib.Core.List.{List, [], ◌∷◌, append-nil}
use mathlib.Core.Bool.{Bool, true, false}
use Prim.Native.Nat.{ℕ, suc, ◌+◌, ◌-◌, ◌<◌, ◌≤◌, ◌^◌, max}
use native.Mathlib.Numerals.{towards_suc}
use native.Mathlib.Omega.{arith}
use lib.ListN.{length, drop, set, length-append}
use lib.Seq.{sets, set-set, set_comm, length-sets}
use Rattle.syntax.proofs.TableLaws.{sets_append}
use Rattle.lexer.specs.Lex.{Token, lex}
use Rattle.reader.specs.declared.Row.{Row}
use Rattle.trees.specs.Green.{nil, node, width, span, size, height}
use Rattle.trees.specs.Look.{skip_ws, head_text}
use Rattle.trees.specs.Parse.{Parsed, Parser, done, next, fails, fails_ahead, join, ◌▹◌, in_node, choose}
use Rattle.trees.specs.Rows.{tree_rows, error_rows}
use Rattle.trees.specs.Writing.{Ready, Fits, Asks, Wrote, Did, Started, Finished}
use Rattle.trees.specs.declared.Cursor.{Cursor}
use Rattle.trees.proofs.GreenLaws.{span-⊹, size-⊹, height-⊹, tree_rows_length, tree_rows-⊹, error_rows_length, error_rows_append, width_split}
use Rattle.trees.proofs.TokenLaws.{width_lex}
use Rattle.trees.proofs.PlaceLaws.{Seen}

-- ---- nothing, the next token, an error

pub did_done : {ts : List Token} {tokens t e : List ℕ} {l : ℕ} {c : Cursor} → Ready ts tokens c → Did ts t t e e l c c done
unfolding done tree_rows error_rows size span
did_done r =
    record {
      wrote =
          record {
            tree = refl;
            errors = refl;
            row = omega arith;
            error = omega arith;
            rest = refl;
            ahead = omega arith;
            within = r.within;
            place = r.byte;
            bytes = omega arith;
          };
    }

-- the token at the cursor, as its row has it
pub did_next : {rule tokens t₀ t₁ e : List ℕ} {l : ℕ} {c : Cursor} {r : Row} → Ready (lex rule) tokens c → Seen rule c.token r
    → t₁ ≡ sets t₀ c.row (r.kind ∷ l ∷ c.byte ∷ r.end ∷ [])
    → Did (lex rule) t₀ t₁ e e l c (record c { token = c.token + 1; byte = r.end; row = c.row + 4 }) next
unfolding next tree_rows error_rows size span
did_next {t₀ = t₀} {l = l} {c = c} {r = r} a i w =
    let end : r.end ≡ c.byte + length i.token.text = omega (arith, i.first, i.end, a.byte) in
    let q : sets t₀ c.row (r.kind ∷ l ∷ c.byte ∷ r.end ∷ []) ≡ sets t₀ c.row (i.token.kind ∷ l ∷ c.byte ∷ (c.byte + length i.token.text) ∷ []) = rw (i.kind, end) in
    record {
      wrote =
          rw i.here (record {
            tree = w ∙ q;
            errors = refl;
            row = omega arith;
            error = omega arith;
            rest = refl;
            ahead = omega arith;
            within = omega (arith, i.before);
            place = sym i.next;
            bytes = omega (arith, end);
          });
    }

-- a parser for another that does the same here
pub did_as : {ts : List Token} {t₀ t₁ e₀ e₁ : List ℕ} {l : ℕ} {c r : Cursor} {p q : Parser} → p (drop c.token ts) ≡ q (drop c.token ts)
    → Did ts t₀ t₁ e₀ e₁ l c r q → Did ts t₀ t₁ e₀ e₁ l c r p
did_as e a = record { wrote = rw e a.wrote }

pub did_next_end : {ts : List Token} {tokens t e : List ℕ} {l : ℕ} {c : Cursor} → Ready ts tokens c → drop c.token ts ≡ [] → Did ts t t e e l c c next
unfolding next done
did_next_end r h = did_as {q = done} (rw h) (did_done r)

-- an error's row, at the tokens left
abbrev pub error_row : (rule : List ℕ) (form k : ℕ) → List Token → List ℕ
error_row rule form k us = error_rows (length rule) (record { form = form; expected = k; left = us } ∷ [])

-- an error row: the place and the end of the token found, or the end of text
module _ (rule : List ℕ) (i form k : ℕ) where
  pub error_here : {r : Row} → Seen rule i r
      → error_row rule form k (drop i (lex rule)) ≡ form ∷ k ∷ r.first ∷ r.end ∷ []
  unfolding error_rows
  error_here {r} s =
      let first : length rule - width (drop i (lex rule)) ≡ r.first = omega (arith, width_split i (lex rule), width_lex rule, s.first) in
      let end : r.first + length (head_text (drop i (lex rule))) ≡ r.end = rw s.here (omega (arith, s.end)) in
      rw (first, end)

  pub error_end : drop i (lex rule) ≡ []
      → error_row rule form k (drop i (lex rule)) ≡ form ∷ k ∷ length rule ∷ length rule ∷ []
  unfolding error_rows width
  error_end e = let z : length rule - 0 ≡ length rule = omega arith in let y : length rule - 0 + 0 ≡ length rule = omega arith in rw (e, y, z)

module _ (rule : List ℕ) {tokens e₀ e₁ : List ℕ} {c : Cursor} (form k : ℕ) (r : Ready (lex rule) tokens c) where
  reported : {us : List Token} (t : List ℕ) (l : ℕ) → e₁ ≡ sets e₀ c.error (error_row rule form k us)
      → Wrote (lex rule) t t e₀ e₁ l c (record c { error = c.error + 4 })
      (record { made = nil; errors = record { form = form; expected = k; left = us } ∷ []; rest = drop c.token (lex rule) })
  unfolding tree_rows error_rows size span
  reported t l w =
      record {
        tree = refl;
        errors = rw (width_lex rule) w;
        row = omega arith;
        error = omega arith;
        rest = refl;
        ahead = omega arith;
        within = r.within;
        place = r.byte;
        bytes = omega arith;
      }

  pub did_fail : (t : List ℕ) (l : ℕ)
      → e₁ ≡ sets e₀ c.error (error_row rule form k (drop c.token (lex rule)))
      → Did (lex rule) t t e₀ e₁ l c (record c { error = c.error + 4 }) (fails form k)
  unfolding fails
  did_fail t l w = record { wrote = reported t l w }

pub did_fail_ahead : (rule : List ℕ) {tokens e₀ e₁ : List ℕ} {c : Cursor} (form : ℕ) → Ready (lex rule) tokens c → (t : List ℕ) (l : ℕ)
    → e₁ ≡ sets e₀ c.error (error_row rule form 0 (skip_ws (drop c.token (lex rule))))
    → Did (lex rule) t t e₀ e₁ l c (record c { error = c.error + 4 }) (fails_ahead form)
unfolding fails_ahead
did_fail_ahead rule form r t l w = record { wrote = reported rule form 0 r t l w }

-- ---- one after another

module _ {ts : List Token} {t₀ t₁ t₂ e₀ e₁ e₂ : List ℕ} {l : ℕ} {c d r : Cursor} where
  wrote_join : {x y : Parsed} → Wrote ts t₀ t₁ e₀ e₁ l c d x → Wrote ts t₁ t₂ e₁ e₂ l d r y → Wrote ts t₀ t₂ e₀ e₂ l c r (join x y)
  unfolding join
  wrote_join {x} {y} a b =
      record {
        tree = b.tree ∙ rw (a.tree, a.row, a.bytes, tree_rows-⊹, sets_append, tree_rows_length);
        errors = b.errors ∙ rw (a.errors, a.error, error_rows_append, sets_append, error_rows_length);
        row = omega (arith, size-⊹ x.made y.made, a.row, b.row);
        error = omega (arith, length-append x.errors y.errors, a.error, b.error);
        rest = b.rest;
        ahead = omega (arith, a.ahead, b.ahead);
        within = b.within;
        place = b.place;
        bytes = omega (arith, span-⊹ x.made y.made, a.bytes, b.bytes);
      }

  pub did_then : {p q : Parser} → Did ts t₀ t₁ e₀ e₁ l c d p → Did ts t₁ t₂ e₁ e₂ l d r q → Did ts t₀ t₂ e₀ e₂ l c r (p ▹ q)
  unfolding ◌▹◌
  did_then a b = let w = b.wrote in record { wrote = wrote_join a.wrote (rw a.wrote.rest at w) }

module _ (p q : Parser) (ts : List Token) where
  then_size : size ((p ▹ q) ts).made ≡ size (p ts).made + size (q (p ts).rest).made
  unfolding ◌▹◌ join
  then_size = size-⊹ (p ts).made (q (p ts).rest).made

  then_errors : length ((p ▹ q) ts).errors ≡ length (p ts).errors + length (q (p ts).rest).errors
  unfolding ◌▹◌ join
  then_errors = length-append (p ts).errors (q (p ts).rest).errors

  then_height : height ((p ▹ q) ts).made ≡ max (height (p ts).made) (height (q (p ts).rest).made)
  unfolding ◌▹◌ join
  then_height = height-⊹ (p ts).made (q (p ts).rest).made

-- the tables keep their lengths
module _ {ts : List Token} {t₀ t₁ e₀ e₁ : List ℕ} {l : ℕ} {c d : Cursor} {p : Parser} (a : Did ts t₀ t₁ e₀ e₁ l c d p) where
  pub tree_long : length t₁ ≡ length t₀
  tree_long = ap length a.wrote.tree ∙ simp length-sets

  pub errors_long : length e₁ ≡ length e₀
  errors_long = ap length a.wrote.errors ∙ simp length-sets

  pub ready_then : {tokens : List ℕ} → Ready ts tokens c → Ready ts tokens d
  ready_then r = record { rows = r.rows; within = a.wrote.within; byte = a.wrote.place }

-- what the first of two asks, and what the second asks after the first
module _ {ts : List Token} {tokens t : List ℕ} {c : Cursor} (p q : Parser) (f : Fits ts tokens t c (p ▹ q)) where
  pub fits_first : Fits ts tokens t c p
  fits_first = record { ready = f.ready; room = omega (arith, then_size p q (drop c.token ts), f.room) }

  pub fits_then : {t₁ e₀ e₁ : List ℕ} {l : ℕ} {d : Cursor} → Did ts t t₁ e₀ e₁ l c d p → Fits ts tokens t₁ d q
  fits_then a =
      record {
        ready = ready_then a f.ready;
        room = rw a.wrote.rest (omega (arith, then_size p q (drop c.token ts), f.room, a.wrote.row, tree_long a));
      }

module _ {ts : List Token} {tokens t e : List ℕ} {l : ℕ} {c : Cursor} (p q : Parser) (f : Asks ts tokens t e l c (p ▹ q)) where
  pub asks_first : Asks ts tokens t e l c p
  asks_first =
      record {
        fits = fits_first p q f.fits;
        room = omega (arith, then_errors p q (drop c.token ts), f.room);
        deep = omega (arith, then_height p q (drop c.token ts), f.deep);
      }

  pub asks_then : {t₁ e₁ : List ℕ} {d : Cursor} → Did ts t t₁ e e₁ l c d p → Asks ts tokens t₁ e₁ l d q
  asks_then a =
      record {
        fits = fits_then p q f.fits a;
        room = rw a.wrote.rest (omega (arith, then_errors p q (drop c.token ts), f.room, a.wrote.error, errors_long a));
        deep = rw a.wrote.rest (omega (arith, then_height p q (drop c.token ts), f.deep));
      }

-- ---- a node

abbrev inside : Cursor → Cursor
inside c = record c { row = c.row + 4 }

set_sets : (t : List ℕ) (i j a : ℕ) (vs : List ℕ) → i < j → set (sets t j vs) i a ≡ sets (set t i a) j vs
set_sets t i j a [] h = refl
set_sets t i j a (v ∷ vs) h =
    set_sets (set t j v) i (suc j) a vs (omega arith) ∙ ap (λ (m : List ℕ). sets m (suc j) vs) (set_comm t j i v a (λ e. omega arith))

-- the end of a node's row, set after the rows inside it
node_rows : (t : List ℕ) (i k l b x : ℕ) (body : List ℕ)
    → set (sets (sets t i (k ∷ l ∷ b ∷ b ∷ [])) (i + 4) body) (i + 3) x ≡ sets t i (k ∷ l ∷ b ∷ x ∷ body)
node_rows t i k l b x body =
    set_sets (sets t i (k ∷ l ∷ b ∷ b ∷ [])) (i + 3) (i + 4) x body (omega arith) ∙ simp (towards_suc, set-set)

wrote_node : {ts : List Token} {t₀ t₁ t₂ t₃ e₀ e₁ : List ℕ} {l : ℕ} {c r s : Cursor} {x : Parsed} (k : ℕ)
    → t₁ ≡ sets t₀ c.row (k ∷ l ∷ c.byte ∷ c.byte ∷ []) → Wrote ts t₁ t₂ e₀ e₁ (l + 1) (inside c) r x → Finished t₂ t₃ c.row r s
    → Wrote ts t₀ t₃ e₀ e₁ l c s (record x { made = node k x.made nil })
unfolding tree_rows size span
wrote_node {t₀ = t₀} {t₂ = t₂} {l = l} {c = c} {r = r} {x = x} k o b f =
    rw f.cursor (record {
      tree =
          f.tree ∙ ap (λ (t : List ℕ). set t (c.row + 3) r.byte) b.tree
          ∙ (rw (o, b.bytes) (node_rows t₀ c.row k l c.byte (c.byte + span x.made) (tree_rows (l + 1) c.byte x.made)))
          ∙ ap (λ (u : List ℕ). sets t₀ c.row (k ∷ l ∷ c.byte ∷ (c.byte + span x.made) ∷ u)) (sym (append-nil (tree_rows (l + 1) c.byte x.made)));
      errors = b.errors;
      row = omega (arith, b.row);
      error = b.error;
      rest = b.rest;
      ahead = b.ahead;
      within = b.within;
      place = b.place;
      bytes = omega (arith, b.bytes);
    })

pub did_node : {ts : List Token} {t₀ t₁ t₂ t₃ e₀ e₁ : List ℕ} {k l : ℕ} {c d r s : Cursor} {p : Parser}
    → Started t₀ t₁ k l c d → Did ts t₁ t₂ e₀ e₁ (l + 1) d r p → Finished t₂ t₃ c.row r s → Did ts t₀ t₃ e₀ e₁ l c s (in_node k p)
unfolding in_node
did_node {k = k} o a f = let w = rw o.cursor at a in record { wrote = wrote_node k o.tree w.wrote f }

module _ {ts : List Token} {tokens t e : List ℕ} {l : ℕ} {c : Cursor} (k : ℕ) (p : Parser) (f : Asks ts tokens t e l c (in_node k p)) where
  -- room for the node's own row, and for one level more
  pub node_room : c.row + 4 ≤ length t
  unfolding in_node size
  node_room = omega (arith, f.fits.room)

  pub node_level : l + 1 < 2 ^ 32
  unfolding in_node height
  node_level = omega (arith, f.deep)

  pub asks_node : {t₁ : List ℕ} {d : Cursor} → Started t t₁ k l c d → Asks ts tokens t₁ e (l + 1) d p
  unfolding in_node size height
  asks_node {t₁} {d} o =
      rw o.cursor (record {
        fits =
            record {
              ready = record { rows = f.fits.ready.rows; within = f.fits.ready.within; byte = f.fits.ready.byte };
              room = rw (o.tree, length-sets) (omega (arith, f.fits.room));
            };
        room = f.room;
        deep = omega (arith, f.deep);
      })

pub started_long : {t₀ t₁ : List ℕ} {k l : ℕ} {c d : Cursor} → Started t₀ t₁ k l c d → length t₁ ≡ length t₀
started_long o = ap length o.tree ∙ simp length-sets

-- ---- a choice, and a definition for another that reads alike

module _ (test : List Token → Bool) (p q : Parser) (ts : List Token) where
  pub choose_true : test ts ≡ true → choose test p q ts ≡ p ts
  unfolding choose
  choose_true e = rw (e, choose)

  pub choose_false : test ts ≡ false → choose test p q ts ≡ q ts
  unfolding choose
  choose_false e = rw (e, choose)

module _ {ts : List Token} {tokens t : List ℕ} {c : Cursor} {p q : Parser} (e : p (drop c.token ts) ≡ q (drop c.token ts)) where
  pub fits_as : Fits ts tokens t c p → Fits ts tokens t c q
  fits_as f = record { ready = f.ready; room = rw (← e) f.room }

  pub asks_as : {es : List ℕ} {l : ℕ} → Asks ts tokens t es l c p → Asks ts tokens t es l c q
  asks_as f = record { fits = fits_as f.fits; room = rw (← e) f.room; deep = rw (← e) f.deep }

-- where two ways meet
pub did_meet : {ts : List Token} {t₀ t₁ t₂ e₀ e₁ e₂ : List ℕ} {l : ℕ} {c r s : Cursor} {p : Parser} → t₁ ≡ t₂ → e₁ ≡ e₂ → r ≡ s → Did ts t₀ t₂ e₀ e₂ l c s p
    → Did ts t₀ t₁ e₀ e₁ l c r p
did_meet t e q a = rw (t, e, q) a

-- one definition for another that is the same
module _ {p q : Parser} (e : p ≡ q) where
  pub asks_is : {ts : List Token} {tokens t es : List ℕ} {l : ℕ} {c : Cursor} → Asks ts tokens t es l c p → Asks ts tokens t es l c q
  asks_is {ts} {tokens} {t} {es} {l} {c} f = subst (λ (x : Parser). Asks ts tokens t es l c x) e f

  pub did_is : {ts : List Token} {t₀ t₁ e₀ e₁ : List ℕ} {l : ℕ} {c r : Cursor} → Did ts t₀ t₁ e₀ e₁ l c r q → Did ts t₀ t₁ e₀ e₁ l c r p
  did_is {ts} {t₀} {t₁} {e₀} {e₁} {l} {c} {r} a = subst (λ (x : Parser). Did ts t₀ t₁ e₀ e₁ l c r x) (sym e) a
