-- The build with notes is the plain build when the notes are forgotten.
use Rattle.std.specs.Prelude.{ℕ, zero, ◌≡◌, refl, ltb, Bool}
use Rattle.std.proofs.Math.Path.{ap}
use Rattle.std.proofs.Math.Bool.{true, false}
use mathlib.Core.List.{List, [], ◌∷◌}
use Rattle.model.specs.Base.{pick}
use Rattle.model.specs.EId
use Rattle.model.specs.Drawing.{Element, Source, Event, begin, text, other, close}
use Rattle.model.specs.Tables.{Tree, Out, refused, done, then, node_room, rooted}
use Rattle.model.specs.Parse.{Ops, label}
use Rattle.model.specs.Theorems.Sim.{Rel, both, same, Every, Events, Carried, Grown, IsCode}
use Rattle.model.proofs.Theorems.Sim.{rel_map, then-rel, text-code, inside-sim}
use Rattle.model.proofs.Theorems.Sim.{top-sim}
use Rattle.model.specs.Build.{with_root, tested, parse_tree, parsed}
use Rattle.model.specs.Noted.{Note, Noted, note_of, with_notes, noting, noted_parsed, noted_tree, notes_of, stripped}

-- FORGETTING THE NOTES

-- The noted state has this tree, and H holds of every text that a note of it names.
abbrev pub Forgets : (Source → Type 0) → Noted → Tree → Type 0
Forgets H s t = (s.tree ≡ t) × Every (λ (n : Note). Every H n.texts) s.notes

-- What holds of everything.
abbrev pub Any : {A : Type 0} → A → Type 0
Any a = Unit {0}

events-any : (xs : List Event) → Events Any Any xs
events-any [] = tt
events-any (begin e ∷ xs) = (tt, events-any xs)
events-any (text a ∷ xs) = (tt, events-any xs)
events-any (other ∷ xs) = events-any xs
events-any (close ∷ xs) = events-any xs

forget-rel : {R : Noted → Tree → Type 0} (ns : List Note) (a b : Out Tree) → a ≡ b →
    ((t : Tree) → R (record { tree = t; notes = ns }) t) → Rel R (with_notes ns a) b
forget-rel ns (refused k) b e f = rw (← e) (both k)
forget-rel ns (done t) b e f = rw (← e) (same (f t))

-- What holds of the texts that a node is made from holds of those that its note names.
noted-texts : (H : Source → Type 0) (e : ℕ) (from : List Source) (i j : ℕ) → Every H from → Every H (note_of e from i j).texts
noted-texts H e [] i j h = h
noted-texts H e (a ∷ more) i j h = h

-- H holds of every text of the drawing.
module _ (H : Source → Type 0) (o : Ops Tree) (all : List Event) (ok : Events Any H all) where
  -- A relation of states that speaks of no node.
  abbrev Plainly : ℕ → Noted → Tree → Type 0
  Plainly p s t = Forgets H s t

  forget-element : (x : Element) → Any x → (c : ℕ) → IsCode c → (i : Bool) (p : ℕ) (s : Noted) (t : Tree) → Forgets H s t →
      Rel (Grown Plainly (o.count t) s t) ((noting o).element x c i p s) (o.element x c i p t)
  forget-element x g c k i p s t r =
      forget-rel s.notes _ _ (ap (λ u. o.element x c i p u) r.0) (λ u. ((refl, r.1), λ p' r'. (refl, r.1)))

  forget-text : (e : ℕ) (from : List Source) → Every H from → (p : ℕ) (s : Noted) (t : Tree) → Forgets H s t →
      Rel (Carried Plainly s t) ((noting o).text e from p s) (o.text e from p t)
  forget-text e from h p s t r =
      let k = noted-texts H e from s.tree.node_count s.tree.text_count h in
      forget-rel _ _ _ (ap (λ u. o.text e from p u) r.0) (λ u p' r'. (refl, (k, r.1)))

  forget-label : (x : Element) → Any x → (xs : List Event) → Events Any H xs → (i : Bool) (p : ℕ) (s : Noted) (t : Tree) → Forgets H s t →
      Rel (Carried Plainly s t) (label (noting o) all x xs i p s) (label o all x xs i p t)
  forget-label x g xs h i p s t r = then-rel (Grown Plainly (o.count t) s t) _ _ _ (forget-element x g EId.Text text-code i p s t r)
      (λ s' t' r'.
      rw (← r.0) (then-rel (Forgets H) _ _ _
      (inside-sim Plainly (Forgets H) Any H (noting o) o all ok (o.count s.tree)
      (λ x g c k p s t r. forget-element x g c k false p s t r)
      (forget-text (o.count s.tree)) (λ p s t r. ap (λ u. o.count u) r.0) (λ p s t r. ap (λ u. o.parent p u) r.0)
      (λ p s t f r. r) (λ p s t r. r) xs h zero (o.count s.tree) s' t' r'.0)
      (λ s'' t'' r''. same (λ p' q. (ap (λ u. o.finish (o.count s.tree) u) r''.0, r''.1)))))

  pub forgotten : (t : Tree) → Rel (Forgets H) (noted_parsed o all t) (parsed o all t)
  unfolding noted_parsed
  forgotten t =
      let s : Noted = record { tree = t; notes = [] } in
      rel_map (Carried Plainly s t) (Forgets H) (λ a b f. f 0 (refl, tt))
      (top-sim Plainly Any H (noting o) o all ok forget-element forget-label (λ p s t r. ap (λ u. o.count u) r.0) s t (refl, tt))

-- THE WHOLE BUILD WITH NOTES

module _ (H : Source → Type 0) (o : Ops Tree) (all : List Event) (ok : Events Any H all) where
  -- What the build with notes gives, beside the build.
  beside : (t : Tree) → Rel (Forgets H) (noted_tree o all t) (parse_tree o all t)
  unfolding noted_tree parse_tree with_root
  beside t = go (ltb 0 (node_room t))
    where
      go : (b : Bool) → Rel (Forgets H) (then (pick b (λ u. done (rooted t)) (λ u. refused 22))
          (λ r. then (noted_parsed o all r) (λ s. with_notes s.notes (tested s.tree))))
          (then (pick b (λ u. done (rooted t)) (λ u. refused 22)) (λ r. then (parsed o all r) tested))
      go true = then-rel (Forgets H) (Forgets H) _ _ (forgotten H o all ok (rooted t))
          (λ s u r. forget-rel s.notes (tested s.tree) (tested u) (ap (λ v. tested v) r.0) (λ v. (refl, r.1)))
      go false = both 22

  -- What holds of every text of the drawing holds of every text that a note names.
  pub texts-noted : (t : Tree) → Every (λ (n : Note). Every H n.texts) (notes_of (noted_tree o all t))
  unfolding notes_of
  texts-noted t = go (beside t)
    where
      go : {a : Out Noted} {b : Out Tree} → Rel (Forgets H) a b → Every (λ (n : Note). Every H n.texts) (notes_of a)
      go (both k) = tt
      go (same r) = r.1

-- The build with notes is the build when the notes are forgotten.
pub notes-forgotten : (o : Ops Tree) (all : List Event) (t : Tree) → stripped (noted_tree o all t) ≡ parse_tree o all t
unfolding stripped
notes-forgotten o all t = go (beside Any o all (events-any all) t)
  where
    go : {a : Out Noted} {b : Out Tree} → Rel (Forgets Any) a b → stripped a ≡ b
    go (both k) = refl
    go (same r) = ap (λ v. done v) r.0
