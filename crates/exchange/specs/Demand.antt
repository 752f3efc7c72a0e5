-- DEMAND 3 OF THE CODE: what follows of a build and an exchange behind it, from what the two functions ensure. It is proved as
-- `demand3-of-calls` in proofs/Demanding.antt.
use Rattle.std.specs.Prelude.{◌≡◌, ℕ, zero, ◌+◌, true, false, List, ◌++◌, length, take, drop}
use Rattle.std.proofs.Math.Option.{some}
use Rattle.model.specs.Utf8.{is_utf8}
use Rattle.model.specs.Drawing.{Source, events, text_numbered, is_in_style}
use Rattle.model.specs.Build.{build, exchange}
use Rattle.model.specs.Noted.{notes}
use Rattle.model.specs.Demand3.{Alike}
use Rattle.tree.specs.Lent.{tree_of}
use Rattle.build.specs.declared.Built.{Built}
use Rattle.build.specs.Results.{counts_of, result_of}

-- A call of build, in tables of n and m words and b bytes, gave 0 and left ns, es and bs. Text t stands at a, outside any element named
-- style, and the new bytes are UTF-8 of its length. They were exchanged for it, in what build left, and the call left chars', ns', es'
-- and bs'.
pub record Calls (script chars : List ℕ) (n m b : ℕ) (ns es bs : List ℕ) (one : Built) (t : ℕ) (a : Source) (new : List ℕ)
    (chars' ns' es' bs' : List ℕ) (two : Built) : Type 0 where
  -- What build ensures.
  pub built : result_of chars ns es bs one ≡ build script chars n m b
  pub number : one.number ≡ 0
  pub text : text_numbered t (events script chars) ≡ some a
  pub outside : is_in_style t zero (events script chars) ≡ false
  pub size : length new ≡ a.size
  pub utf8 : is_utf8 new ≡ true
  -- What exchange ensures.
  pub exchanged : result_of chars' ns' es' bs' two ≡ exchange script chars t new ns es bs

-- The exchange is accepted, no other byte of the characters is changed, and the tables are alike but for what may change with text t.
abbrev pub Demand3OfCalls : Type 0
Demand3OfCalls =
    (script chars : List ℕ) (n m b : ℕ) (ns es bs : List ℕ) (one : Built) (t : ℕ) (a : Source) (new : List ℕ)
    (chars' ns' es' bs' : List ℕ) (two : Built) →
    Calls script chars n m b ns es bs one t a new chars' ns' es' bs' two →
    (two.number ≡ 0) × (chars' ≡ take a.start chars ++ new ++ drop (a.start + a.size) chars)
    × Alike t (notes script chars n m b) chars chars' (tree_of ns es bs (counts_of one)) (tree_of ns' es' bs' (counts_of two))
