-- Nodes of which nothing is built can be passed over. Assumes nothing.
use Prim.Native.Nat.{ℕ, zero, suc, ◌+◌, ◌-◌, ◌≤◌}
use mathlib.Core.Path.{◌≡◌, refl, ap, sym, ◌∙◌, subst}
use mathlib.Core.Bool.{Bool, true, false, true≢false}
use mathlib.Core.List.{List, [], ◌∷◌}
use native.Mathlib.Numerals.{add-one}
use native.Mathlib.Omega.{arith}
use Rattle.model.specs.Base.{pick}
use Rattle.model.specs.Drawing as model
use Rattle.model.specs.Drawing.{Element, Source, Event, begin, close, children_from, has_tag_name}
use Rattle.model.specs.Tables.{Tree, Out, done}
use Rattle.model.specs.Parse.{Builder, each, node, plain}
use Rattle.script.specs.declared.drawing.Drawing.{Drawing}
use Rattle.script.specs.declared.cursor.Cursor.{Cursor}
use Rattle.script.specs.Step.{Fit, document}
use Rattle.walk.specs.Nodes.{leave}
use Rattle.walk.specs.Values.{events_at}
use Rattle.walk.proofs.Along.{behind-close}
use Rattle.label.specs.Walk.{Lies}
use Rattle.parse.specs.Cycle.{is_parsed}
use Rattle.parse.specs.declared.State.{State}
use Rattle.parse.specs.Met.{is_copied}
use Rattle.parse.specs.Unbuilt.{is_built, past_unbuilt, Skipped}
use Rattle.parse.proofs.Levels.{node-level}
use Rattle.parse.proofs.Following.{handed-done, then-done}

-- THE WALK, item by item

pub built-outside : (k name space : ℕ) → k ≡ 0 → is_parsed name space ≡ is_built k name space
built-outside k name space h = ap (λ j. is_built j name space) (sym h)

pub built-inside : (k name space : ℕ) → (k ≡ 0 → ⊥) → false ≡ is_built k name space
built-inside zero name space h = absurd (h refl)
built-inside (suc k) name space h = refl

pub built-here : (k : ℕ) (xs : List Event) (x : Element) → is_built k x.code x.namespace ≡ true →
    past_unbuilt k (begin x ∷ xs) ≡ begin x ∷ xs
unfolding past_unbuilt
built-here zero xs x h = ap (λ (b : Bool). pick b (λ u. begin x ∷ xs) (λ u. past_unbuilt 1 xs)) h
built-here (suc k) xs x h = absurd (true≢false (sym h))

pub unbuilt-begin : (k : ℕ) (xs : List Event) (x : Element) → is_built k x.code x.namespace ≡ false →
    past_unbuilt k (begin x ∷ xs) ≡ past_unbuilt (k + 1) xs
unfolding past_unbuilt
unbuilt-begin zero xs x h = ap (λ (b : Bool). pick b (λ u. begin x ∷ xs) (λ u. past_unbuilt 1 xs)) h
unbuilt-begin (suc k) xs x h = ap (λ m. past_unbuilt m xs) (sym (add-one (suc k)))

module _ (k : ℕ) (xs : List Event) where
  pub unbuilt-text : (a : Source) → past_unbuilt k (model.Event.text a ∷ xs) ≡ past_unbuilt k xs
  unfolding past_unbuilt
  unbuilt-text a = refl

  pub unbuilt-other : past_unbuilt k (model.Event.other ∷ xs) ≡ past_unbuilt k xs
  unfolding past_unbuilt
  unbuilt-other = refl

  pub unbuilt-close : (k ≡ 0 → ⊥) → past_unbuilt k (close ∷ xs) ≡ past_unbuilt (k - 1) xs
  unfolding past_unbuilt
  unbuilt-close = behind-close (λ j. past_unbuilt j (close ∷ xs)) (λ j. past_unbuilt j xs) (λ j. refl) k

  pub unbuilt-out : k ≡ 0 → past_unbuilt k (close ∷ xs) ≡ close ∷ xs
  unfolding past_unbuilt
  unbuilt-out e = rw e

pub unbuilt-end : (k : ℕ) → past_unbuilt k [] ≡ []
unfolding past_unbuilt
unbuilt-end k = refl

-- WHAT IS PASSED OVER

-- The element around them ends in the same place.
leave-unbuilt : (k : ℕ) (xs : List Event) → leave 0 (past_unbuilt k xs) ≡ leave k xs
unfolding past_unbuilt leave
leave-unbuilt k [] = refl
leave-unbuilt zero (begin x ∷ xs) = go (is_parsed x.code x.namespace) (leave-unbuilt 1 xs)
  where
    go : (b : Bool) → leave 0 (past_unbuilt 1 xs) ≡ leave 1 xs →
        leave 0 (pick b (λ u. begin x ∷ xs) (λ u. past_unbuilt 1 xs)) ≡ leave 1 xs
    go true h = refl
    go false h = h
leave-unbuilt (suc k) (begin x ∷ xs) = leave-unbuilt (suc (suc k)) xs
leave-unbuilt zero (model.Event.text a ∷ xs) = leave-unbuilt zero xs
leave-unbuilt (suc k) (model.Event.text a ∷ xs) = leave-unbuilt (suc k) xs
leave-unbuilt zero (model.Event.other ∷ xs) = leave-unbuilt zero xs
leave-unbuilt (suc k) (model.Event.other ∷ xs) = leave-unbuilt (suc k) xs
leave-unbuilt zero (close ∷ xs) = refl
leave-unbuilt (suc k) (close ∷ xs) = leave-unbuilt k xs

lies-unbuilt : (chars : List ℕ) (k : ℕ) (xs : List Event) → Lies chars xs → Lies chars (past_unbuilt k xs)
unfolding past_unbuilt
lies-unbuilt chars k [] h = tt
lies-unbuilt chars zero (begin x ∷ xs) h = go (is_parsed x.code x.namespace) (lies-unbuilt chars 1 xs h.1)
  where
    go : (b : Bool) → Lies chars (past_unbuilt 1 xs) → Lies chars (pick b (λ u. begin x ∷ xs) (λ u. past_unbuilt 1 xs))
    go true l = h
    go false l = l
lies-unbuilt chars (suc k) (begin x ∷ xs) h = lies-unbuilt chars (suc (suc k)) xs h.1
lies-unbuilt chars zero (model.Event.text a ∷ xs) h = lies-unbuilt chars zero xs h.1
lies-unbuilt chars (suc k) (model.Event.text a ∷ xs) h = lies-unbuilt chars (suc k) xs h.1
lies-unbuilt chars zero (model.Event.other ∷ xs) h = lies-unbuilt chars zero xs h
lies-unbuilt chars (suc k) (model.Event.other ∷ xs) h = lies-unbuilt chars (suc k) xs h
lies-unbuilt chars zero (close ∷ xs) h = h
lies-unbuilt chars (suc k) (close ∷ xs) h = lies-unbuilt chars k xs h

-- Nothing comes of them where a level is left.
module _ (chars : List ℕ) (all : List Event) (left : ℕ) (above : 1 ≤ left) (origin : ℕ) (ignored : Bool) (p : ℕ) (t : Tree) where
  abbrev build : Builder Tree
  build = node (plain chars) all left

  abbrev built : List (List Event) → Out Tree
  built xs = each build xs origin ignored p t

  unparsed-done : (x : Element) (xs : List Event) → is_parsed x.code x.namespace ≡ false →
      done t ≡ build (begin x ∷ xs) origin ignored p t
  unfolding has_tag_name
  unparsed-done x xs h =
      sym (ap (λ (f : Builder Tree). f (begin x ∷ xs) origin ignored p t) (node-level (plain chars) all left above) ∙ rw h)

  -- The first of them.
  first-none : (x : Event) (xs : List Event) (ys : List (List Event)) → done t ≡ build (x ∷ xs) origin ignored p t →
      built ys ≡ built ((x ∷ xs) ∷ ys)
  first-none x xs ys h = then-done t (build (x ∷ xs) origin ignored p t) (λ r. each build ys origin ignored p r) h

  first-begun : (x : Element) (xs : List Event) (b : Bool) → is_parsed x.code x.namespace ≡ b →
      built (children_from 0 (past_unbuilt 1 xs)) ≡ built (children_from 1 xs) →
      built (children_from 0 (pick b (λ u. begin x ∷ xs) (λ u. past_unbuilt 1 xs))) ≡ built (children_from 0 (begin x ∷ xs))
  unfolding children_from
  first-begun x xs true q h = refl
  first-begun x xs false q h = h ∙ first-none (begin x) xs (children_from 1 xs) (unparsed-done x xs q)

  each-unbuilt : (k : ℕ) (xs : List Event) → built (children_from 0 (past_unbuilt k xs)) ≡ built (children_from k xs)
  unfolding past_unbuilt children_from
  each-unbuilt k [] = refl
  each-unbuilt zero (begin x ∷ xs) = first-begun x xs (is_parsed x.code x.namespace) refl (each-unbuilt 1 xs)
  each-unbuilt (suc k) (begin x ∷ xs) = each-unbuilt (suc (suc k)) xs
  each-unbuilt zero (model.Event.text a ∷ xs) =
      each-unbuilt zero xs ∙ first-none (model.Event.text a) xs (children_from 0 xs)
      (handed-done chars all left origin ignored p t (model.Event.text a) tt xs above)
  each-unbuilt (suc k) (model.Event.text a ∷ xs) = each-unbuilt (suc k) xs
  each-unbuilt zero (model.Event.other ∷ xs) =
      each-unbuilt zero xs ∙ first-none model.Event.other xs (children_from 0 xs)
      (handed-done chars all left origin ignored p t model.Event.other tt xs above)
  each-unbuilt (suc k) (model.Event.other ∷ xs) = each-unbuilt (suc k) xs
  each-unbuilt zero (close ∷ xs) = refl
  each-unbuilt (suc k) (close ∷ xs) = each-unbuilt k xs

-- THE CURSOR IS MOVED

pub skipped-none : (drawing : Drawing) (left : ℕ) (s : State) → Fit drawing s.cursor → Skipped drawing left s s
skipped-none drawing left s f = record {
  stood = refl;
  fit = f;
  later = omega arith;
  behind = refl;
  lies = λ l. l;
  same = λ o p t. refl;
}

pub skipped-past : (drawing : Drawing) (left : ℕ) (s : State) → (left ≡ 0 → ⊥) → (past : Cursor) →
    events_at drawing past ≡ past_unbuilt 0 (events_at drawing s.cursor) → Fit drawing past → s.cursor.at ≤ past.at →
    Skipped drawing left s (record s { cursor = past })
skipped-past drawing left s h past q f l =
    let xs = events_at drawing s.cursor in
    record {
      stood = refl;
      fit = f;
      later = l;
      behind = ap (leave 0) q ∙ leave-unbuilt 0 xs;
      lies = λ y. subst (Lies drawing.characters.now) (sym q) (lies-unbuilt drawing.characters.now 0 xs y);
      same = λ o p t. ap (λ zs. each (node (plain drawing.characters.now) (document drawing) left) (children_from 0 zs) o (is_copied o) p t) q
          ∙ each-unbuilt drawing.characters.now (document drawing) left (let z : 1 ≤ left = omega (arith, h) in z) o (is_copied o) p t 0 xs;
    }
