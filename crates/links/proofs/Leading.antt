-- Which element is the first with an id: links lead to an element exactly if they name the id by which it is found. Assumes nothing.
use mathlib.Core.Path.{◌≡◌, refl, sym, ap, ◌∙◌, subst}
use mathlib.Core.List.{List, [], ◌∷◌}
use mathlib.Core.Bool.{Bool, true, false, false≢true}
use mathlib.Core.Option.{Option, none, some}
use Prim.Native.Nat.{ℕ, zero, suc, ◌+◌, ◌<◌}
use native.Mathlib.Omega.{arith}
use borrow.Author.Tests.{eq-eqb, ne_eqb, eqb-true, eqb-false}
use lib.Dec.{eqb}
use Rattle.model.specs.Base.{pick, given, same_bytes}
use Rattle.model.specs.AId
use Rattle.model.specs.Drawing as model
use Rattle.model.specs.Drawing.{Command, opening, attribute, declaration, reading, closing, broken, Mark, past, Event, begin, close}
use Rattle.model.specs.Drawing.{events, events_from, element_at, attribute_in, has_id, first_with_id, number_of, linked_by}
use Rattle.script.specs.declared.drawing.Drawing.{Drawing}
use Rattle.script.specs.declared.cursor.Cursor.{Cursor}
use Rattle.script.specs.Step.{Here, commands_at, mark_of, at_start, place_from, place_of, document}
use Rattle.script.proofs.Commands.{Stands, nothing-there, broken-there, there, what-stands, unbroken}
use Rattle.walk.specs.declared.node.Opened.{Opened}
use Rattle.walk.specs.Values.{events_at}
use Rattle.walk.specs.Nodes.{element_of, node_at, Standing}
use Rattle.links.specs.Links.{same_parts, leading_id}
use Rattle.walk.proofs.Walks.{stepped}
use Rattle.memo.proofs.Ids.{id-hit, id-miss}
use Rattle.memo.proofs.Knowing.{same-eq, same-itself}

-- THE ID OF AN ELEMENT

-- An element has one first id.
one-id : (e : model.Element) (k l : List ℕ) → has_id k e ≡ true → has_id l e ≡ true → k ≡ l
unfolding has_id
one-id e k l = go (attribute_in 0 AId.Id e.attributes)
  where
    go : (v : Option model.Value) → given v (λ w. same_bytes w.part.bytes k) (λ u. false) ≡ true
        → given v (λ w. same_bytes w.part.bytes l) (λ u. false) ≡ true → k ≡ l
    go (some v) p q = sym (same-eq v.part.bytes k p) ∙ same-eq v.part.bytes l q
    go none p q = absurd (false≢true p)

-- The element that is found has the id.
found-has : (id : List ℕ) (xs : List Event) (e : model.Element) (ys : List Event) → first_with_id id xs ≡ begin e ∷ ys → has_id id e ≡ true
unfolding first_with_id
found-has id [] e ys h = absurd (let z : ◌≡◌ {A = ℕ} 0 1 = cc in omega arith)
found-has id (begin x ∷ xs) e ys h = go (has_id id x) refl h (found-has id xs e ys)
  where
    go : (t : Bool) → has_id id x ≡ t → pick t (λ u. begin x ∷ xs) (λ u. first_with_id id xs) ≡ begin e ∷ ys
        → (first_with_id id xs ≡ begin e ∷ ys → has_id id e ≡ true) → has_id id e ≡ true
    go true p k ih = let q : x ≡ e = cc in subst (λ y. has_id id y ≡ true) q p
    go false p k ih = ih k
found-has id (model.Event.text a ∷ xs) e ys h = found-has id xs e ys h
found-has id (model.Event.other ∷ xs) e ys h = found-has id xs e ys h
found-has id (close ∷ xs) e ys h = found-has id xs e ys h

-- THE NUMBERS OF ELEMENTS

module _ (chars : List ℕ) where
  -- The number of the first element with the id, behind a mark.
  abbrev found_at : List ℕ → Mark → List Command → ℕ
  found_at id m cs = number_of (first_with_id id (events_from chars m cs))

  -- It is greater than the mark's.
  pub later : (id : List ℕ) (m : Mark) (cs : List Command) → (found_at id m cs ≡ 0 → ⊥) → m.number < found_at id m cs
  unfolding first_with_id events_from element_at
  later id m [] h = absurd (h refl)
  later id m (opening a b ∷ cs) h = go (has_id id (element_at chars m a b cs)) h (later id (past m (opening a b)) cs)
    where
      xs : List Event
      xs = events_from chars (past m (opening a b)) cs

      go : (t : Bool) → (number_of (pick t (λ u. begin (element_at chars m a b cs) ∷ xs) (λ u. first_with_id id xs)) ≡ 0 → ⊥)
          → ((number_of (first_with_id id xs) ≡ 0 → ⊥) → m.number + 1 < number_of (first_with_id id xs))
          → m.number < number_of (pick t (λ u. begin (element_at chars m a b cs) ∷ xs) (λ u. first_with_id id xs))
      go true k ih = omega arith
      go false k ih = omega (arith, ih k)
  later id m (attribute a b l ∷ cs) h = omega (arith, later id (past m (attribute a b l)) cs h)
  later id m (declaration a b l ∷ cs) h = omega (arith, later id (past m (declaration a b l)) cs h)
  later id m (reading k o l ∷ cs) h = omega (arith, later id (past m (reading k o l)) cs h)
  later id m (Command.text l ∷ cs) h = omega (arith, later id (past m (Command.text l)) cs h)
  later id m (Command.other ∷ cs) h = omega (arith, later id (past m Command.other) cs h)
  later id m (closing ∷ cs) h = omega (arith, later id (past m closing) cs h)
  later id m (broken b ∷ cs) h = absurd (h refl)

  -- Two ids whose first elements have the same number have the same first element.
  unique : (k l : List ℕ) (m : Mark) (cs : List Command) → found_at k m cs ≡ found_at l m cs → (found_at k m cs ≡ 0 → ⊥)
      → first_with_id k (events_from chars m cs) ≡ first_with_id l (events_from chars m cs)
  unfolding first_with_id events_from element_at
  unique k l m [] e h = refl
  unique k l m (opening a b ∷ cs) e h =
      go (has_id k (element_at chars m a b cs)) (has_id l (element_at chars m a b cs)) e h (later k n cs) (later l n cs) (unique k l n cs)
    where
      n : Mark
      n = past m (opening a b)

      xs : List Event
      xs = events_from chars n cs

      at : Bool → List ℕ → List Event
      at t id = pick t (λ u. begin (element_at chars m a b cs) ∷ xs) (λ u. first_with_id id xs)

      go : (t u : Bool) → number_of (at t k) ≡ number_of (at u l) → (number_of (at t k) ≡ 0 → ⊥)
          → ((number_of (first_with_id k xs) ≡ 0 → ⊥) → m.number + 1 < number_of (first_with_id k xs))
          → ((number_of (first_with_id l xs) ≡ 0 → ⊥) → m.number + 1 < number_of (first_with_id l xs))
          → (number_of (first_with_id k xs) ≡ number_of (first_with_id l xs) → (number_of (first_with_id k xs) ≡ 0 → ⊥)
          → first_with_id k xs ≡ first_with_id l xs)
          → at t k ≡ at u l
      go true true p q f g ih = refl
      go true false p q f g ih = absurd
          (let z : m.number + 1 < number_of (first_with_id l xs) = g (λ y. omega (arith, p, y)) in omega (arith, z, p))
      go false true p q f g ih = absurd (let z : m.number + 1 < number_of (first_with_id k xs) = f q in omega (arith, z, p))
      go false false p q f g ih = ih p q
  unique k l m (attribute a b n ∷ cs) e h = unique k l (past m (attribute a b n)) cs e h
  unique k l m (declaration a b n ∷ cs) e h = unique k l (past m (declaration a b n)) cs e h
  unique k l m (reading j o n ∷ cs) e h = unique k l (past m (reading j o n)) cs e h
  unique k l m (Command.text n ∷ cs) e h = unique k l (past m (Command.text n)) cs e h
  unique k l m (Command.other ∷ cs) e h = unique k l (past m Command.other) cs e h
  unique k l m (closing ∷ cs) e h = unique k l (past m closing) cs e h
  unique k l m (broken b ∷ cs) e h = refl

-- WHERE A LINK LEADS

same_or_not : (a b : List ℕ) (n m : ℕ) → (same_bytes a b ≡ true → n ≡ m) → (n ≡ m → a ≡ b) → eqb n m ≡ same_bytes a b
same_or_not a b n m f g = go (same_bytes a b) refl
  where
    go : (t : Bool) → same_bytes a b ≡ t → eqb n m ≡ t
    go true e = eq-eqb n m (f e)
    go false e = ne_eqb n m (λ z. absurd (false≢true (sym e ∙ ap (same_bytes a) (sym (g z)) ∙ same-itself a)))

module _ (drawing : Drawing) (l : List ℕ) (e : model.Element) (ys : List Event) (f : first_with_id l (document drawing) ≡ begin e ∷ ys)
    (z : e.number ≡ 0 → ⊥) where
  -- A link leads to the first element with an id exactly if it names that id.
  pub leads-by : (k : List ℕ) → eqb (number_of (first_with_id k (document drawing))) e.number ≡ same_bytes k l
  unfolding events
  leads-by k = same_or_not k l (number_of (first_with_id k (document drawing))) e.number
      (λ h. ap (λ i. number_of (first_with_id i (document drawing))) (same-eq k l h) ∙ ap number_of f)
      (λ h. one-id e k l
      (found-has k (document drawing) e ys (unique drawing.characters.now k l _ _ (h ∙ sym (ap number_of f)) (λ y. z (sym h ∙ y)) ∙ f))
      (found-has l (document drawing) e ys f))

-- THE ELEMENT AT A PLACE

-- The nodes from the own place of an element on.
pub node-here : (drawing : Drawing) (e : Opened) → Standing drawing e → node_at drawing e ≡ events_at drawing e.own
unfolding events_from element_at
node-here drawing e w = stepped (events_from drawing.characters.now) w.here
    (λ m. begin (record {
      number = e.own.number + 1;
      code = e.name;
      namespace = e.space;
      attributes = model.attributes_at drawing.characters.now m (commands_at drawing e.inside);
      declarations = model.declarations_at drawing.characters.now m (commands_at drawing e.inside);
    }) ∷ events_from drawing.characters.now m (commands_at drawing e.inside)) refl

module _ (drawing : Drawing) (id : List ℕ) where
  same-on : (d : Cursor) (x : Command) (m : Cursor) → Here drawing d x m
      → first_with_id id (events_from drawing.characters.now (mark_of d) (x ∷ commands_at drawing m))
      ≡ first_with_id id (events_from drawing.characters.now (past (mark_of d) x) (commands_at drawing m))
      → first_with_id id (events_at drawing d) ≡ first_with_id id (events_at drawing m)
  same-on d x m h e =
      sym (stepped (λ k cs. first_with_id id (events_from drawing.characters.now k cs)) h (λ k. first_with_id id (events_from drawing.characters.now k (commands_at drawing m))) e)

  -- Behind a command that opens no element found, the same is found.
  step-on : (d : Cursor) (x : Command) (m : Cursor) → Here drawing d x m → (number_of (first_with_id id (events_at drawing d)) ≡ d.number + 1 → ⊥)
      → first_with_id id (events_at drawing d) ≡ first_with_id id (events_at drawing m)
  unfolding first_with_id events_from element_at
  step-on d (opening a b) m h n =
      let p = ap (λ cs. first_with_id id (events_from drawing.characters.now (mark_of d) cs)) h.more in
      p ∙ go (has_id id (element_at drawing.characters.now (mark_of d) a b (commands_at drawing m))) (λ z. n (ap number_of p ∙ z))
      ∙ ap (λ (k : Cursor). first_with_id id (events_from drawing.characters.now (mark_of k) (commands_at drawing m))) (sym h.next)
    where
      xs : List Event
      xs = events_from drawing.characters.now (past (mark_of d) (opening a b)) (commands_at drawing m)

      go : (t : Bool)
          → (number_of (pick t (λ u. begin (element_at drawing.characters.now (mark_of d) a b (commands_at drawing m)) ∷ xs) (λ u. first_with_id id xs))
          ≡ d.number + 1 → ⊥)
          → pick t (λ u. begin (element_at drawing.characters.now (mark_of d) a b (commands_at drawing m)) ∷ xs) (λ u. first_with_id id xs) ≡ first_with_id id xs
      go true q = absurd (q refl)
      go false q = refl
  step-on d (attribute a b l) m h n = same-on d (attribute a b l) m h refl
  step-on d (declaration a b l) m h n = same-on d (declaration a b l) m h refl
  step-on d (reading j o l) m h n = same-on d (reading j o l) m h refl
  step-on d (Command.text l) m h n = same-on d (Command.text l) m h refl
  step-on d Command.other m h n = same-on d Command.other m h refl
  step-on d closing m h n = same-on d closing m h refl
  step-on d (broken b) m h n = absurd (false≢true (sym (unbroken (broken b) h)))

  module _ (e : Opened) (w : Standing drawing e) where
    -- What is found at the own place of an element, with its number, is the element.
    at_own : number_of (first_with_id id (node_at drawing e)) ≡ e.own.number + 1 → first_with_id id (node_at drawing e) ≡ node_at drawing e
    at_own h = go (has_id id (element_of drawing e)) refl
      where
        go : (t : Bool) → has_id id (element_of drawing e) ≡ t → first_with_id id (node_at drawing e) ≡ node_at drawing e
        go true p = id-hit id _ _ p
        go false p =
            let q = id-miss id (events_at drawing e.inside) (element_of drawing e) p in
            let g = later drawing.characters.now id (mark_of e.inside) (commands_at drawing e.inside) (λ y. omega (arith, sym (ap number_of q) ∙ h, y)) in
            absurd (omega (arith, g, sym (ap number_of q) ∙ h, ap (λ (k : Cursor). k.number) w.here.next))

    own-from : (k : ℕ) (d : Cursor) → place_from k d (commands_at drawing d) ≡ e.own → e.own.number ≡ d.number + k
        → number_of (first_with_id id (events_at drawing d)) ≡ e.own.number + 1 → first_with_id id (events_at drawing d) ≡ node_at drawing e
    unfolding place_from
    own-from zero d p n h =
        let q = ap (events_at drawing) p ∙ sym (node-here drawing e w) in
        ap (first_with_id id) q ∙ at_own (ap (λ xs. number_of (first_with_id id xs)) (sym q) ∙ h)
    own-from (suc k) d p n h = go (what-stands drawing d) (λ m. own-from k m)
      where
        go : Stands drawing d
            → ((m : Cursor) → place_from k m (commands_at drawing m) ≡ e.own → e.own.number ≡ m.number + k
            → number_of (first_with_id id (events_at drawing m)) ≡ e.own.number + 1
            → first_with_id id (events_at drawing m) ≡ node_at drawing e)
            → first_with_id id (events_at drawing d) ≡ node_at drawing e
        go (nothing-there z) ih = absurd (let y : d ≡ e.own = rw z at p in omega (arith, ap (λ (v : Cursor). v.number) y, n))
        go (broken-there b z) ih = absurd (let y : d ≡ e.own = rw z at p in omega (arith, ap (λ (v : Cursor). v.number) y, n))
        go (there x m v) ih =
            let q = step-on d x m v (λ y. omega (arith, y, h, n)) in
            q ∙ ih m (rw (v.more, unbroken x v, ← v.next) at p) (omega (arith, ap (λ (u : Cursor). u.number) v.next, n))
            (ap number_of (sym q) ∙ h)

    -- What is found in the document with the number of an element is the element.
    pub in_place : number_of (first_with_id id (document drawing)) ≡ e.own.number + 1 → first_with_id id (document drawing) ≡ node_at drawing e
    unfolding events place_of commands_at
    in_place h = own-from e.own.number at_start (sym w.own.placed) (let z : e.own.number ≡ 0 + e.own.number = omega arith in z) h

-- BY WHICH ID LINKS LEAD TO AN ELEMENT

-- No link leads nowhere.
nowhere : (n : ℕ) → eqb 0 (n + 1) ≡ false
nowhere n = ne_eqb 0 (n + 1) (λ z. omega (arith, z))

module _ (drawing : Drawing) (e : Opened) (w : Standing drawing e) where
  -- The leading id of the element, from its first unprefixed id.
  abbrev leading : Option model.Value → Option model.Part
  leading o =
      given o (λ v. pick (eqb (number_of (first_with_id v.part.bytes (document drawing))) (e.own.number + 1)) (λ u. some v.part)
      (λ u. none)) (λ u. none)

  is_leading : (o : Option model.Value) → attribute_in 0 AId.Id (element_of drawing e).attributes ≡ o
      → leading o ≡ leading_id (document drawing) (element_of drawing e)
  unfolding leading_id
  is_leading o a = ap leading (sym a)

  -- An element that is led to has the id.
  led : (k : List ℕ) → number_of (first_with_id k (document drawing)) ≡ e.own.number + 1 → has_id k (element_of drawing e) ≡ true
  led k h = found-has k (document drawing) (element_of drawing e) _ (in_place drawing k e w h)

  with_value : (k : List ℕ) (v : model.Value) → attribute_in 0 AId.Id (element_of drawing e).attributes ≡ some v → (t : Bool)
      → eqb (number_of (first_with_id v.part.bytes (document drawing))) (e.own.number + 1) ≡ t
      → eqb (number_of (first_with_id k (document drawing))) (e.own.number + 1)
      ≡ given (pick t (λ u. some v.part) (λ u. none)) (λ q. same_bytes k q.bytes) (λ u. false)
  unfolding has_id
  with_value k v a true g =
      leads-by drawing v.part.bytes (element_of drawing e) _ (in_place drawing v.part.bytes e w (eqb-true _ _ g))
      (λ y. omega (arith, y)) k
  with_value k v a false g = ne_eqb _ _ (λ h.
      let q : v.part.bytes ≡ k = same-eq _ _
      (sym (ap (λ o. given o (λ (x : model.Value). same_bytes x.part.bytes k) (λ u. false)) a) ∙ led k h) in
      eqb-false _ _ g (ap (λ i. number_of (first_with_id i (document drawing))) q ∙ h))

  by_value : (k : List ℕ) (o : Option model.Value) → attribute_in 0 AId.Id (element_of drawing e).attributes ≡ o
      → eqb (number_of (first_with_id k (document drawing))) (e.own.number + 1) ≡ given (leading o) (λ q. same_bytes k q.bytes) (λ u. false)
  unfolding has_id
  by_value k (some v) a = with_value k v a _ refl
  by_value k none a =
      ne_eqb _ _ (λ h. false≢true (sym (ap (λ o. given o (λ (x : model.Value). same_bytes x.part.bytes k) (λ u. false)) a) ∙ led k h))

  -- A link leads to an element exactly if it names the element's leading id.
  pub leads-to-own : (p : Option model.Part)
      → eqb (number_of (linked_by (document drawing) p)) (e.own.number + 1)
      ≡ same_parts p (leading_id (document drawing) (element_of drawing e))
  leads-to-own none = nowhere e.own.number
  leads-to-own (some p) = by_value p.bytes _ refl ∙ ap (same_parts (some p)) (is_leading _ refl)

-- A link leads to the element that another link leads to exactly if both name the same id.
pub leads-to-linked : (drawing : Drawing) (l : Opened) (q : Option model.Part) → node_at drawing l ≡ linked_by (document drawing) q
    → (p : Option model.Part)
    → eqb (number_of (linked_by (document drawing) p)) (l.own.number + 1) ≡ same_parts p q
leads-to-linked drawing l q h none = nowhere l.own.number
leads-to-linked drawing l none h (some p) = absurd (let z : ◌≡◌ {A = ℕ} 0 1 = cc in omega arith)
leads-to-linked drawing l (some q) h (some p) = leads-by drawing q.bytes (element_of drawing l) _ (sym h) (λ y. omega (arith, y))
    p.bytes
