-- The spaces of the open levels in words of bits. Assumes nothing.
use Prim.Native.Nat.{ℕ, zero, suc, ◌+◌, ◌*◌, ◌≤◌, ◌<◌}
use mathlib.Core.Path.{◌≡◌, sym, ap, ◌∙◌, subst}
use mathlib.Core.List.{List}
use native.Mathlib.Omega.{arith}
use native.Mathlib.Numerals.{add-one}
use lib.ListN.{length, get_or, set, length-set}
use lib.Seq.{get_or-set_same, get_or-set_other}
use Rattle.model.specs.Text.{XmlSpace}
use Rattle.text.specs.Spaces.{space_in}
use Rattle.text.specs.declared.XmlSpace.{XmlSpace as Space}
use Rattle.pieces.specs.declared.Levels.{Levels}
use Rattle.std.specs.Prelude.{Some}
use Rattle.pieces.specs.Levels.{bit_of, behind, word_of, past, Stored, Told, Pushed, SplitFit, AboveFit}

word_some : (n : ℕ) (f : ℕ → XmlSpace) → 1 ≤ word_of n f
word_some zero f = omega arith
word_some (suc n) f = let h = word_some n (behind f) in omega arith

stored-set : (ws : List ℕ) (i x k : ℕ) (f : ℕ → XmlSpace) → k ≤ i → Stored ws k f → Stored (set ws i x) k f
stored-set ws i x zero f l h = tt
stored-set ws i x (suc k) f l h = (
  h.0,
  get_or-set_other ws i k x 0 (omega arith) ∙ h.1,
  stored-set ws i x k (past h.0 f) (omega arith) h.2,
)

-- ONE LEVEL MORE

module _ (v : Levels) (s : XmlSpace) (b : ℕ) (is : b ≡ bit_of s) where
  pub push-bit : Pushed v s (record { words = v.words; top = v.top * 2 + b; full = v.full })
  push-bit f e h = record {
    long = h.long;
    few = h.few;
    many = suc h.many;
    top = let z : b ≡ bit_of (f 0) = is ∙ ap bit_of e in omega (arith, h.top);
    stored = h.stored;
  }

  pub push-word : v.full < 32 → Pushed v s (record { words = set v.words v.full v.top; top = 2 + b; full = v.full + 1 })
  push-word l f e h = record {
    long = length-set v.words v.full v.top ∙ h.long;
    few = omega arith;
    many = 1;
    top = let z : b ≡ bit_of (f 0) = is ∙ ap bit_of e in omega arith;
    stored = rw (add-one v.full) (
      h.many,
      get_or-set_same v.words v.full v.top 0 (omega (arith, h.long)) ∙ h.top,
      stored-set v.words v.full v.top v.full (past h.many (behind f)) (omega arith) h.stored,
    );
  }

  pub push-alone : Pushed v s (record { words = v.words; top = 2 + b; full = 0 })
  push-alone f e h = record {
    long = h.long;
    few = omega arith;
    many = 1;
    top = let z : b ≡ bit_of (f 0) = is ∙ ap bit_of e in omega arith;
    stored = tt;
  }

-- ONE LEVEL LESS

module _ (v : Levels) where
  -- The word that was split has n spaces or more, and the words before it the others.
  split-told : (top full n : ℕ) (f : ℕ → XmlSpace) → 2 ≤ top → top ≡ word_of n f → (length v.words ≡ 32) × (full ≤ 32) →
      Stored v.words full (past n f) → (s : Space) (rest : ℕ) → SplitFit top (s, rest) →
      (space_in s ≡ f 0) × Told (record { words = v.words; top = rest; full = full }) (behind f)
  split-told top full zero f l q few st s rest h = absurd (omega arith)
  split-told top full (suc n) f l q few st s rest h =
      let k = h n f q in (k.0, record { long = few.0; few = few.1; many = n; top = k.1; stored = st })

  pub pop-top : 2 ≤ v.top → (s : Space) (rest : ℕ) → SplitFit v.top (s, rest) →
      AboveFit v (Some s) (record { words = v.words; top = rest; full = v.full })
  pop-top l s rest h = λ f told. split-told v.top v.full told.many f l told.top (told.long, told.few) told.stored s rest h

  pub pop-word : v.top < 2 → (last : ℕ) → v.full ≡ last + 1 → 2 ≤ get_or v.words last 0 → (s : Space) (rest : ℕ) →
      SplitFit (get_or v.words last 0) (s, rest) → AboveFit v (Some s) (record { words = v.words; top = rest; full = last })
  pop-word l last full m s rest h = λ f told. go f told.many told.top (told.long, told.few) told.stored
    where
      go : (f : ℕ → XmlSpace) (n : ℕ) → v.top ≡ word_of n f → (length v.words ≡ 32) × (v.full ≤ 32) → Stored v.words v.full (past n f) →
          (space_in s ≡ f 0) × Told (record { words = v.words; top = rest; full = last }) (behind f)
      go f (suc n) q few st = absurd (omega (arith, word_some n (behind f)))
      go f zero q few st =
          let k : Stored v.words (suc last) f = subst (λ j. Stored v.words j f) (full ∙ add-one last) st in
          split-told (get_or v.words last 0) last k.0 f m k.1 (few.0, omega (arith, full, few.1)) k.2 s rest h
