-- What an exchange leaves, by what the build of the changed drawing gives. Assumes nothing.
use Prim.Native.Nat.{ℕ, zero, suc}
use mathlib.Core.Path.{◌≡◌, refl, sym, ap, ◌∙◌, subst}
use mathlib.Core.Bool.{Bool, true, false}
use mathlib.Core.List.{List}
use borrow.Author.Tests.{eq-eqb, ne_eqb}
use lib.ListN.{length}
use lib.Seq.{sets}
use Rattle.model.specs.Base.{pick}
use Rattle.model.specs.Check.{check}
use Rattle.model.specs.Tables.{cleared, refused}
use Rattle.model.specs.Build.{Result, answered, build, exchange_fault, settled, exchange}
use Rattle.model.proofs.Refusals.{build-refused}
use Rattle.build.specs.declared.Built.{Built}
use Rattle.std.specs.Prelude as std
use Rattle.std.specs.Prelude.{Ok, Err}
use Rattle.std.specs.Result.{is_err}
use Rattle.refusal.specs.declared.Refusal.{Refusal}
use Rattle.refusal.specs.Number.{number_of}
use Rattle.refusal.proofs.Number.{number_nonzero}
use Rattle.tree.specs.declared.Counts.{Counts}
use Rattle.build.specs.Results.{built_of, result_of, left_by}
use Rattle.exchange.specs.Changes.{Changeable, Granted}

-- The number of an answer.
pub not-refused : (r : std.Result Counts Refusal) → is_err r ≡ false → (built_of r).number ≡ 0
not-refused (Ok c) e = refl
not-refused (Err k) e = cc

pub is-refused : (r : std.Result Counts Refusal) → is_err r ≡ true → (built_of r).number ≡ 0 → ⊥
is-refused (Ok c) e = cc
is-refused (Err k) e = number_nonzero k

-- The same answer with other characters.
abbrev with_characters : List ℕ → Result → Result
with_characters chars r = record { number = r.number; characters = chars; tree = r.tree }

settled-done : (chars : List ℕ) (r : Result) → r.number ≡ 0 → settled chars r ≡ r
settled-done chars r e = ap (λ (c : Bool). pick c (λ u. r) (λ u. with_characters chars r)) (eq-eqb r.number 0 e)

settled-refused : (chars : List ℕ) (r : Result) → (r.number ≡ 0 → ⊥) → settled chars r ≡ with_characters chars r
settled-refused chars r e = ap (λ (c : Bool). pick c (λ u. r) (λ u. with_characters chars r)) (ne_eqb r.number 0 e)

-- A refused build leaves cleared tables.
refused-whole : (script chars : List ℕ) (n m b : ℕ) → ((build script chars n m b).number ≡ 0 → ⊥) →
    build script chars n m b ≡ record { number = (build script chars n m b).number; characters = chars; tree = cleared n m b }
refused-whole script chars n m b h = go (build script chars n m b).number refl h
  where
    go : (k : ℕ) → (build script chars n m b).number ≡ k → (k ≡ 0 → ⊥) →
        build script chars n m b ≡ record { number = k; characters = chars; tree = cleared n m b }
    go zero e z = absurd (z refl)
    go (suc k) e z = build-refused script chars n m b k e

module _ (script chars : List ℕ) (start : ℕ) (new : List ℕ) (h : Changeable script chars start new) (n m b : ℕ) where
  abbrev two : List ℕ
  two = sets chars start new

  pub after-put : (two' : List ℕ) → two' ≡ two → check script two' ≡ 0
  after-put two' put = subst (λ (xs : List ℕ). check script xs ≡ 0) (sym put) h.after

  module _ (ns es bs : List ℕ) (r : Built) where
    -- The changed drawing was built.
    module _ (two' : List ℕ) (put : two' ≡ two) (e : result_of two' ns es bs r ≡ build script two' n m b) where
      changed-built : result_of two ns es bs r ≡ build script two n m b
      changed-built = subst (λ (xs : List ℕ). result_of xs ns es bs r ≡ build script xs n m b) put e

      its-number : r.number ≡ (build script two n m b).number
      its-number = ap (λ (x : Result). x.number) changed-built

      -- It was accepted.
      pub change-stays : r.number ≡ 0 → result_of two' ns es bs r ≡ settled chars (build script two n m b)
      change-stays z =
          ap (λ (xs : List ℕ). result_of xs ns es bs r) put ∙ changed-built
          ∙ sym (settled-done chars (build script two n m b) (sym its-number ∙ z))

      -- It was refused, and the characters are as before.
      pub change-undone : (r.number ≡ 0 → ⊥) → (after : List ℕ) → after ≡ chars →
          result_of after ns es bs r ≡ settled chars (build script two n m b)
      change-undone z after f =
          ap (λ (xs : List ℕ). result_of xs ns es bs r) f ∙ ap (with_characters chars) changed-built
          ∙ sym (settled-refused chars (build script two n m b) (λ y. z (its-number ∙ y)))

      -- It was built behind the drawing as it is, which was accepted.
      pub change-made : (xs ys zs : List ℕ) (one : Built) → result_of chars xs ys zs one ≡ build script chars n m b → one.number ≡ 0 →
          result_of two' ns es bs r ≡ settled chars (build script two n m b)
      change-made xs ys zs one f z = change-stays (its-number ∙ h.number n m b ∙ sym (ap (λ (x : Result). x.number) f) ∙ z)

    -- The drawing as it is was refused, and so would be the changed one.
    pub change-refused : result_of chars ns es bs r ≡ build script chars n m b → (r.number ≡ 0 → ⊥) →
        result_of chars ns es bs r ≡ settled chars (build script two n m b)
    change-refused e z =
        let one : ((build script chars n m b).number ≡ 0 → ⊥) = λ y. z (ap (λ (x : Result). x.number) e ∙ y) in
        let other : ((build script two n m b).number ≡ 0 → ⊥) = λ y. one (sym (h.number n m b) ∙ y) in
        e ∙ refused-whole script chars n m b one
        ∙ ap (λ k. record { number = k; characters = chars; tree = cleared n m b }) (sym (h.number n m b))
        ∙ sym (ap (with_characters chars) (refused-whole script two n m b other))
        ∙ sym (settled-refused chars (build script two n m b) other)

-- The build with tables of equal lengths.
pub as_long : (script chars : List ℕ) (x : Result) (n m b n' m' b' : ℕ) → n' ≡ n → m' ≡ m → b' ≡ b → x ≡ build script chars n' m' b' →
    x ≡ build script chars n m b
as_long script chars x n m b n' m' b' p q s e = e ∙ (λ i. build script chars (p i) (q i) (s i))

-- THE WHOLE EXCHANGE

module _ (script chars : List ℕ) (t : ℕ) (new ns es bs : List ℕ) where
  -- A fault of the call touches nothing.
  pub fault-told : (k : Refusal) → exchange_fault script chars t new ≡ number_of k → (x : Result) →
      x ≡ answered chars (left_by false ns es bs) (refused (number_of k)) → x ≡ exchange script chars t new ns es bs
  unfolding exchange
  fault-told k h x e = e ∙ rw (h, ne_eqb (number_of k) 0 (number_nonzero k)) refl

  -- The changed drawing is built.
  pub change-told : (start : ℕ) → Granted script chars t new start → (chars' ns' es' bs' : List ℕ) (r : Built) →
      result_of chars' ns' es' bs' r ≡ settled chars (build script (sets chars start new) (length ns) (length es) (length bs)) →
      result_of chars' ns' es' bs' r ≡ exchange script chars t new ns es bs
  unfolding exchange
  change-told start g chars' ns' es' bs' r e = e ∙ rw (g.fault, g.changed) refl
