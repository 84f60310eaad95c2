-- `cipher_terms::ephemeral` meets its contract.
-- Assumes nothing.
use Rattle.vectors.proofs.Reading.{small-vector}
use Rattle.vectors.proofs.Amounts.{reads, width_bound, rest-size, begun_length, begins}
use Rattle.cipher_terms.proofs.Terms.{ephemeral_first}
use Rattle.kindi.specs.Params.{width}
use Rattle.ring.specs.Coefficients.{centred_words}
use Rattle.bits.specs.Bits.{unpack}
use Rattle.keccak.proofs.Parts.{patched-rest}
use lib.Seq.{take_at}
use lib.ListN.{length, take, drop, length-take, length-drop}
use Prim.Native.Nat.{ℕ, ◌*◌, ◌-◌}
use native.Mathlib.Omega.{arith}
use mathlib.Core.List.{List, ◌++◌}
use mathlib.Core.Path.{◌≡◌, sym, ap₂, ◌∙◌}
use Rattle.cipher_terms.proofs.ephemeral.Goals as goal

pub small-requires : goal.small-requires
small-requires c =
    let begun : List ℕ =
    c.first.new.dst ++ drop c.args.p.n c.args.s.now in
    let secret_part : length (take c.args.p.n c.args.s.now) ≡ c.args.p.n =
    simp length-take (omega (arith, begins c.args.p c.requires.well, c.requires.secret_long)) in
    let first_size : length c.first.new.dst ≡ c.args.p.n =
    c.first.auto.dst ∙ secret_part in
    let begun_size : length (begun) ≡ c.args.p.l * c.args.p.n =
    let p = c.args.p in
    begun_length p.n c.first.new.dst c.args.s.now (first_size) c.requires.secret_long
    (begins p c.requires.well) in
    let rest_part : length (take (length (begun) - c.args.p.n) (drop c.args.p.n (begun))) ≡ (c.args.p.l - 1) * c.args.p.n =
    let p = c.args.p in
    let W = c.requires.well in
    simp (length-take, length-drop) (rw (sym (rest-size p.l p.n W.some_polynomials)) (omega (arith, begins p W, begun_size))) in
    let p = c.args.p in
    let W = c.requires.well in (
      rw c.width.ensures (width_bound p W),
      rw c.width.ensures (reads p W (p.l - 1) (width p) (rest_part) c.requires.rest_there),
    )

pub returns : goal.returns
returns c =
    let begun : List ℕ =
    c.first.new.dst ++ drop c.args.p.n c.args.s.now in
    let secret_part : length (take c.args.p.n c.args.s.now) ≡ c.args.p.n =
    simp length-take (omega (arith, begins c.args.p c.requires.well, c.requires.secret_long)) in
    let first_size : length c.first.new.dst ≡ c.args.p.n =
    c.first.auto.dst ∙ secret_part in
    let begun_size : length (begun) ≡ c.args.p.l * c.args.p.n =
    let p = c.args.p in
    begun_length p.n c.first.new.dst c.args.s.now (first_size) c.requires.secret_long
    (begins p c.requires.well) in
    let rest_part : length (take (length (begun) - c.args.p.n) (drop c.args.p.n (begun))) ≡ (c.args.p.l - 1) * c.args.p.n =
    let p = c.args.p in
    let W = c.requires.well in
    simp (length-take, length-drop) (rw (sym (rest-size p.l p.n W.some_polynomials)) (omega (arith, begins p W, begun_size))) in
    let p = c.args.p in
    let rest = c.args.rest.now in
    patched-rest p.n c.small.new.dst (begun)
    ∙ ap₂ ◌++◌ (take_at c.first.new.dst (drop p.n c.args.s.now) p.n (first_size) ∙
    c.first.ensures)
    (c.small.ensures ∙ ap₂ (λ (w m : ℕ). centred_words p.p (unpack w m rest)) c.width.ensures
    (rest_part)
    ∙ small-vector (p.l - 1) p.n (width p) p.p rest)
    ∙ ephemeral_first p c.args.coins.now c.args.high.now rest p.l c.requires.well.some_polynomials
