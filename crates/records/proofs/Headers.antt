-- What a header that is read says of what is left. Assumes nothing.
use mathlib.Core.Path.{◌≡◌, refl, sym, ap, ◌∙◌}
use mathlib.Core.Bool.{Bool, true, false, cond, not, ◌||◌}
use mathlib.Core.List.{List}
use Prim.Native.Nat.{ℕ, ◌+◌, ◌≤◌}
use native.Mathlib.Omega.{arith}
use borrow.Author.Tests.{ltb-false}
use lib.Dec.{eqb, ltb}
use lib.ListN.{length}
use Rattle.std.specs.Prelude.{Result, Ok, Err}
use Rattle.kindi.proofs.Chains.{never}
use Rattle.records.specs.declared.header.Header.{Header}
use Rattle.records.specs.declared.header.Unread.{Unread}
use Rattle.records.specs.declared.header.Unread.TheVariants.{End, Short, Unmarked, Cut, Unknown}
use Rattle.records.specs.Header.{header_length, is_marked, kind_of, set_of, body_length, is_cut, is_kind, read_header}

-- Whether reading goes on after a header, behind the body.
unfoldable goes_on : Result Header Unread → Bool
goes_on (Ok header) = true
goes_on (Err End) = false
goes_on (Err Short) = false
goes_on (Err Unmarked) = false
goes_on (Err Cut) = false
goes_on (Err (Unknown kind body)) = true

unfoldable body_of : Result Header Unread → ℕ
body_of (Ok header) = header.body
body_of (Err End) = 0
body_of (Err Short) = 0
body_of (Err Unmarked) = 0
body_of (Err Cut) = 0
body_of (Err (Unknown kind body)) = body

-- A check before it has passed.
record Past (bad : Bool) (x y : Result Header Unread) : Type 0 where
  passed : bad ≡ false
  so : goes_on y ≡ true
  same : cond bad x y ≡ y

past : (bad : Bool) (x y : Result Header Unread) → goes_on x ≡ false → goes_on (cond bad x y) ≡ true → Past bad x y
past true x y not so = never (ap (λ (b : Bool). cond b 1 0) (sym not ∙ so))
past false x y not so = record { passed = refl; so = so; same = refl }

-- The body of the last two cases.
last_body : (unknown : Bool) (kind set body : ℕ)
    → body_of (cond unknown (Err (Unknown kind body)) (Ok (record { kind = kind; set = set; body = body }))) ≡ body
unfolding body_of
last_body true kind set body = refl
last_body false kind set body = refl

-- Neither of two tests holds.
neither : (a b : Bool) → a || b ≡ false → b ≡ false
neither true b e = never (ap (λ (x : Bool). cond x 0 1) e)
neither false b e = e

-- The record of a header that reading goes on after is there.
record_there : (rest : List ℕ) → goes_on (read_header rest) ≡ true → header_length + body_of (read_header rest) ≤ length rest
unfolding read_header goes_on
record_there rest so =
    let c1 = past (eqb (length rest) 0) (Err End) _ refl so in
    let c2 = past (ltb (length rest) 6) (Err Short) _ refl c1.so in
    let c3 = past (not (is_marked rest)) (Err Unmarked) _ refl c2.so in
    let c4 = past (is_cut (length rest) (body_length rest)) (Err Cut) _ refl c3.so in
    let there = neither (ltb 8192 (body_length rest)) (ltb (length rest) (6 + body_length rest)) c4.passed in
    let is : body_of (read_header rest) ≡ body_length rest
    = ap body_of (c1.same ∙ c2.same ∙ c3.same ∙ c4.same)
    ∙ last_body (not (is_kind (kind_of rest))) (kind_of rest) (set_of rest) (body_length rest) in
    omega (arith, ltb-false (length rest) (6 + body_length rest) there, is)

-- So it is of a whole header, and of one whose kind there is not.
pub whole_there : (rest : List ℕ) {header : Header} → Ok header ≡ read_header rest → header_length + header.body ≤ length rest
unfolding goes_on body_of
whole_there rest e = rw (ap body_of e) (record_there rest (ap goes_on (sym e)))

pub unknown_there : (rest : List ℕ) {kind body : ℕ} → Err (Unknown kind body) ≡ read_header rest → header_length + body ≤ length rest
unfolding goes_on body_of
unknown_there rest e = rw (ap body_of e) (record_there rest (ap goes_on (sym e)))
