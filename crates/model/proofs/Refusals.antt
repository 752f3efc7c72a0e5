-- The refusals of exchange and build, from their definitions: what each leaves.
use Rattle.std.specs.Prelude.{ℕ, zero, suc, ◌≡◌, true, false, List, eqb, length}
use Rattle.std.proofs.Math.Path.{refl}
use Rattle.std.proofs.Common.{ap, arith}
use Rattle.std.proofs.Math.Option.{none, some}
use borrow.Author.Tests.{eq-eqb, ne_eqb}
use Rattle.std.proofs.Math.Dec.{eqb-suc-zero}
use Rattle.model.specs.Base.{pick}
use Rattle.model.specs.Utf8.{is_utf8}
use Rattle.model.specs.Drawing.{Source, events, text_numbered, is_in_style}
use Rattle.model.specs.Check.{first_of, check}
use Rattle.model.specs.Tables.{Tree, Out, refused, done, cleared}
use Rattle.model.specs.Parse.{plain}
use Rattle.model.specs.Build.{parse_tree, with_repairs, answered, build, exchange_fault, changed, exchange}
use Rattle.model.specs.Refusals.{lent}

-- A fault of the call touches nothing, and gives counts of 0.
pub fault-touches-nothing : (script chars : List ℕ) (t : ℕ) (new ns ats ts : List ℕ) (k : ℕ) → exchange_fault script chars t new ≡ suc k →
    exchange script chars t new ns ats ts ≡ record { number = suc k; characters = chars; tree = lent ns ats ts }
unfolding exchange
fault-touches-nothing script chars t new ns ats ts k e = rw (e, eqb-suc-zero k) refl

-- The faults, in their order: check's number first.
pub fault-check : (script chars : List ℕ) (t : ℕ) (new : List ℕ) (k : ℕ) → check script chars ≡ suc k →
    exchange_fault script chars t new ≡ suc k
unfolding exchange_fault
fault-check script chars t new k e = rw (e, eqb-suc-zero k) refl

-- 30: no such text.
pub fault-30 : (script chars : List ℕ) (t : ℕ) (new : List ℕ) → check script chars ≡ 0 → text_numbered t (events script chars) ≡ none →
    exchange_fault script chars t new ≡ 30
unfolding exchange_fault
fault-30 script chars t new e f = rw (e, f) refl

module _ (script chars : List ℕ) (t : ℕ) (a : Source) (new : List ℕ) (e : check script chars ≡ 0)
    (f : text_numbered t (events script chars) ≡ some a) where
  -- 31: it stands inside an element named style.
  pub fault-31 : is_in_style a.number zero (events script chars) ≡ true → exchange_fault script chars t new ≡ 31
  unfolding exchange_fault first_of
  fault-31 g = rw (e, f, g) refl

  -- 32: another length.
  pub fault-32 : is_in_style a.number zero (events script chars) ≡ false → (length new ≡ a.size → ⊥) →
      exchange_fault script chars t new ≡ 32
  unfolding exchange_fault first_of
  fault-32 g l = rw (e, f, g, ne_eqb (length new) a.size l) refl

  -- 33: new bytes not UTF-8.
  pub fault-33 : is_in_style a.number zero (events script chars) ≡ false → length new ≡ a.size → is_utf8 new ≡ false →
      exchange_fault script chars t new ≡ 33
  unfolding exchange_fault first_of
  fault-33 g l u = rw (e, f, g, eq-eqb (length new) a.size l, u) refl

-- A refused build clears all three tables and gives counts of 0.
pub build-refused : (script chars : List ℕ) (n m b k : ℕ) → (build script chars n m b).number ≡ suc k →
    build script chars n m b ≡ record { number = suc k; characters = chars; tree = cleared n m b }
unfolding build
build-refused script chars n m b k h =
    go (pick (eqb (check script chars) 0)
    (λ u. with_repairs chars (events script chars) (parse_tree (plain chars) (events script chars) (cleared n m b)))
    (λ u. refused (check script chars))) h
  where
    go : (o : Out Tree) → (answered chars (cleared n m b) o).number ≡ suc k →
        answered chars (cleared n m b) o ≡ record { number = suc k; characters = chars; tree = cleared n m b }
    go (refused j) g = ap (λ i. record { number = i; characters = chars; tree = cleared n m b }) g
    go (done u) g = absurd (omega arith)

-- A call with no fault whose build is refused leaves the characters and clears the tables.
pub refused-clears : (script chars : List ℕ) (t : ℕ) (new ns ats ts : List ℕ) (k : ℕ) → exchange_fault script chars t new ≡ 0 →
    (build script (changed script chars t new) (length ns) (length ats) (length ts)).number ≡ suc k →
    exchange script chars t new ns ats ts ≡ record {
      number = suc k;
      characters = chars;
      tree = cleared (length ns) (length ats) (length ts);
    }
unfolding exchange
refused-clears script chars t new ns ats ts k e g =
    rw (e, build-refused script (changed script chars t new) (length ns) (length ats) (length ts) k g, eqb-suc-zero k) refl
