-- One node after another, whatever stands before it. Assumes nothing.
use Prim.Native.Nat.{ℕ, zero, ◌≤◌}
use mathlib.Core.Path.{◌≡◌, refl, ap, sym}
use mathlib.Core.Bool.{Bool}
use mathlib.Core.List.{List, [], ◌∷◌}
use Rattle.model.specs.Drawing as model
use Rattle.model.specs.Drawing.{Event, begin, close, children_from}
use Rattle.model.specs.Tables.{Tree, Out, refused, done, then}
use Rattle.model.specs.Parse.{Builder, each, node, plain}
use Rattle.walk.specs.Nodes.{leave}
use Rattle.walk.proofs.Along.{children-behind}
use Rattle.label.specs.Walk.{Lies}
use Rattle.label.proofs.Walking.{lies-leave, leave-past}
use Rattle.parse.specs.Met.{next_of, Opens}
use Rattle.parse.proofs.Levels.{node-level}

-- All of the nodes are the first of them, then the others in what it leaves.
pub each_first : (build : Builder Tree) (origin : ℕ) (ignored : Bool) (p : ℕ) (t : Tree) (xs : List Event) → Opens xs →
    then (build xs origin ignored p t) (λ r. each build (children_from zero (next_of xs)) origin ignored p r)
    ≡ each build (children_from zero xs) origin ignored p t
unfolding children_from
each_first build origin ignored p t [] h = absurd h
each_first build origin ignored p t (begin e ∷ xs) h =
    ap (λ zs. then (build (begin e ∷ xs) origin ignored p t) (λ r. each build zs origin ignored p r)) (sym (children-behind 0 xs))
each_first build origin ignored p t (model.Event.text a ∷ xs) h = refl
each_first build origin ignored p t (model.Event.other ∷ xs) h = refl
each_first build origin ignored p t (close ∷ xs) h = absurd h

-- The element around them ends in the same place.
pub leave-next : (xs : List Event) → Opens xs → leave 0 (next_of xs) ≡ leave 0 xs
unfolding leave
leave-next [] h = absurd h
leave-next (begin e ∷ xs) h = sym (leave-past 0 xs)
leave-next (model.Event.text a ∷ xs) h = refl
leave-next (model.Event.other ∷ xs) h = refl
leave-next (close ∷ xs) h = absurd h

pub lies-next : (chars : List ℕ) (xs : List Event) → Opens xs → Lies chars xs → Lies chars (next_of xs)
lies-next chars [] h l = absurd h
lies-next chars (begin e ∷ xs) h l = lies-leave chars 0 xs l.1
lies-next chars (model.Event.text a ∷ xs) h l = l.1
lies-next chars (model.Event.other ∷ xs) h l = l
lies-next chars (close ∷ xs) h l = absurd h

-- A text, or a node that is no element.
abbrev pub Handed : Event → Type 0
Handed (begin x) = ⊥
Handed (model.Event.text a) = Unit {0}
Handed (model.Event.other) = Unit {0}
Handed close = ⊥

pub handed-next : (x : Event) → Handed x → (zs : List Event) → Opens (x ∷ zs) × (zs ≡ next_of (x ∷ zs))
handed-next (model.Event.text a) h zs = (tt, refl)
handed-next (model.Event.other) h zs = (tt, refl)
handed-next (begin _) h zs = elim h [ ]
handed-next close h zs = elim h [ ]

-- It is handed over where a level is left, and refused where none is.
module _ (chars : List ℕ) (all : List Event) (left origin : ℕ) (ignored : Bool) (p : ℕ) (t : Tree) where
  pub handed-done : (x : Event) → Handed x → (zs : List Event) → 1 ≤ left → done t ≡ node (plain chars) all left (x ∷ zs) origin ignored p t
  handed-done (model.Event.text a) h zs l =
      sym (ap (λ (f : Builder Tree). f (model.Event.text a ∷ zs) origin ignored p t) (node-level (plain chars) all left l))
  handed-done (model.Event.other) h zs l =
      sym (ap (λ (f : Builder Tree). f (model.Event.other ∷ zs) origin ignored p t) (node-level (plain chars) all left l))
  handed-done (begin _) h zs l = elim h [ ]
  handed-done close h zs l = elim h [ ]

  pub handed-deep : left ≡ 0 → (zs : List Event) → refused 20 ≡ node (plain chars) all left zs origin ignored p t
  handed-deep h zs = ap (λ l. node (plain chars) all l zs origin ignored p t) (sym h)

-- What is refused is refused with all that follows it.
pub then-refused : (n : ℕ) (o : Out Tree) (f : Tree → Out Tree) → refused n ≡ o → refused n ≡ then o f
then-refused n o f q = ap (λ (x : Out Tree). then x f) q

pub then-done : (u : Tree) (o : Out Tree) (f : Tree → Out Tree) → done u ≡ o → f u ≡ then o f
then-done u o f q = ap (λ (x : Out Tree). then x f) q
