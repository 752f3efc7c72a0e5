-- What the 40 test tells of tables that pass it. Assumes nothing.
use mathlib.Core.Path.{◌≡◌, refl}
use mathlib.Core.Bool.{Bool, true, false, not}
use mathlib.Core.List.{List}
use Prim.Native.Nat.{ℕ, ◌+◌, ◌-◌, ◌<◌, ◌≤◌}
use native.Mathlib.Omega.{arith}
use lib.ListN.{length}
use lib.Dec.{eqb, leb, ltb}
use borrow.Author.Tests.{leb-false, eqb-true, eqb-false, ltb-true}
use Rattle.model.specs.Base.{pick, and}
use Rattle.model.specs.Names.{is_attribute}
use Rattle.model.specs.Tables.{Tree, ELEMENT, TEXT, kind_of, first_child_of, from_of, to_of}
use Rattle.model.specs.Check.{first_of}
use Rattle.model.specs.Questions.{is_sound, question_fault, TextPart, text_of_node, text_at, text_question}
use Rattle.model.specs.Theorems.Kept.{Kept}
use Rattle.model.proofs.Theorems.Sound.{both, sound-kept}
use Rattle.tree.specs.Lent.{nodes_read}
use Rattle.tree.proofs.Facts.{readable}
use Rattle.questions.specs.Answers.{TextReadable}

-- What reading a text asks.
pub text-readable : (size : ℕ) (t : Tree) → Kept size t → (i : ℕ) → i < t.node_count → TextReadable (nodes_read t.nodes) i
text-readable size t s i l = record { inside = (readable size t s i l).inside; order = λ k. ((s.nodes i l).bytes k).0 }

-- No number stands against the question.
pub no-fault : (chars : List ℕ) (t : Tree) (i a : ℕ) → question_fault chars t i a ≡ 0 → Kept (length chars) t × (i < t.node_count)
unfolding question_fault first_of
no-fault chars t i a h =
    let p : (is_sound chars t ≡ true) × (leb t.node_count i ≡ false) =
    go (is_sound chars t) (leb t.node_count i) (not (is_attribute a)) h in
    (sound-kept chars t p.0, leb-false t.node_count i p.1)
  where
    go : (b c d : Bool) → ◌≡◌ {A = ℕ} (pick (not b) (λ u. 40) (λ u. pick c (λ u. 41) (λ u. pick d (λ u. 42) (λ u. 0)))) 0 →
        (b ≡ true) × (c ≡ false)
    go true true d e = absurd (let z : ◌≡◌ {A = ℕ} 41 0 = e in omega arith)
    go true false d e = (refl, refl)
    go false c d e = absurd (let z : ◌≡◌ {A = ℕ} 40 0 = e in omega arith)

-- The part of a text lies within the text table.
abbrev Within : Tree → TextPart → Type 0
Within t p = p.start + p.size ≤ length t.text

node-within : (chars : List ℕ) (t : Tree) → Kept (length chars) t → (i : ℕ) → i < t.node_count → Within t (text_of_node t i)
node-within chars t s i l = go (eqb (kind_of t i) TEXT) refl
  where
    go : (b : Bool) → eqb (kind_of t i) TEXT ≡ b
        → Within t (pick b (λ u. record { start = from_of t i; size = to_of t i - from_of t i }) (λ u. record { start = 0; size = 0 }))
    go true e =
        let p : (from_of t i ≤ to_of t i) × (to_of t i ≤ t.text_count) = (s.nodes i l).bytes (eqb-true (kind_of t i) TEXT e) in
        omega (arith, s.fits.bytes)
    go false e = omega arith

first-within : (chars : List ℕ) (t : Tree) → Kept (length chars) t → (w : ℕ) → ((w ≡ 0 → ⊥) → w ≤ t.node_count)
    → Within t (pick (eqb w 0) (λ v. record { start = 0; size = 0 }) (λ v. text_of_node t (w - 1)))
first-within chars t s w l = go (eqb w 0) refl
  where
    go : (b : Bool) → eqb w 0 ≡ b → Within t (pick b (λ v. record { start = 0; size = 0 }) (λ v. text_of_node t (w - 1)))
    go true e = omega arith
    go false e = let d : (w ≡ 0 → ⊥) = eqb-false w 0 e in node-within chars t s (w - 1) (omega (arith, l d))

text-within : (chars : List ℕ) (t : Tree) → Kept (length chars) t → (i : ℕ) → i < t.node_count → Within t (text_at t i)
text-within chars t s i l = go (eqb (kind_of t i) ELEMENT)
  where
    go : (b : Bool) →
        Within t (pick b (λ u. pick (eqb (first_child_of t i) 0) (λ v. record { start = 0; size = 0 })
        (λ v. text_of_node t (first_child_of t i - 1))) (λ u. text_of_node t i))
    go true = first-within chars t s (first_child_of t i) (λ z. ((s.nodes i l).first z).1)
    go false = node-within chars t s i l

pub part-within : (chars : List ℕ) (t : Tree) (i : ℕ) → Within t (text_question chars t i)
unfolding text_question
part-within chars t i = go (and (is_sound chars t) (ltb i t.node_count)) refl
  where
    go : (b : Bool) → and (is_sound chars t) (ltb i t.node_count) ≡ b →
        Within t (pick b (λ u. text_at t i) (λ u. record { start = 0; size = 0 }))
    go true e =
        let p : (is_sound chars t ≡ true) × (ltb i t.node_count ≡ true) = both (is_sound chars t) (ltb i t.node_count) e in
        text-within chars t (sound-kept chars t p.0) i (ltb-true i t.node_count p.1)
    go false e = omega arith
