-- One simulation law for the whole recursion: two sets of operations that keep a relation between their states keep it in the two builds.
use Prim.Native.Nat.{ℕ, zero, suc}
use Rattle.std.specs.Prelude.{◌≡◌, refl, Bool, true, not, eqb, leb}
use Rattle.std.proofs.Common.{ap, arith}
use Rattle.std.proofs.Math.Bool.{false}
use mathlib.Core.List.{List, [], ◌∷◌}
use Rattle.std.proofs.Math.Option.{Option, none, some}
use Rattle.model.specs.Base.{pick, and, among}
use Rattle.model.specs.Names.{is_element}
use Rattle.model.specs.EId
use Rattle.model.specs.Drawing.{Part, Element, Source, Event, begin, text, other, close, children_from, texts_in, has_id, first_with_id}
use Rattle.model.specs.Drawing.{linked_by, tref_href, has_tag_name, quoted_from, quoted, use_href, may_copy, copied, use_target}
use Rattle.model.specs.Tables.{Out, then}
use Rattle.model.specs.Text.{total_size}
use Rattle.model.specs.Parse.{Ops, Builder, each, refuse, tag_of, text_tag_of, is_text_content, quote, inside, label, copy, level, node}
use Rattle.model.specs.Build.{parsed}
use Rattle.model.specs.Theorems.Sim.{Rel, Every, Events, Carried, Grown, IsCode, both, same}

module _ (G : Element → Type 0) (H : Source → Type 0) where
  pub events-children : (k : ℕ) (xs : List Event) → Events G H xs → Every (Events G H) (children_from k xs)
  unfolding children_from
  events-children k [] h = tt
  events-children zero (begin e ∷ xs) h = (h, events-children 1 xs h.1)
  events-children (suc k) (begin e ∷ xs) h = events-children (suc (suc k)) xs h.1
  events-children zero (text a ∷ xs) h = (h, events-children zero xs h.1)
  events-children (suc k) (text a ∷ xs) h = events-children (suc k) xs h.1
  events-children zero (other ∷ xs) h = (h, events-children zero xs h)
  events-children (suc k) (other ∷ xs) h = events-children (suc k) xs h
  events-children zero (close ∷ xs) h = tt
  events-children (suc k) (close ∷ xs) h = events-children k xs h

  texts-in : (k : ℕ) (xs : List Event) → Events G H xs → Every H (texts_in k xs)
  unfolding texts_in
  texts-in k [] h = tt
  texts-in k (begin e ∷ xs) h = texts-in (suc k) xs h.1
  texts-in k (text a ∷ xs) h = (h.0, texts-in k xs h.1)
  texts-in k (other ∷ xs) h = texts-in k xs h
  texts-in zero (close ∷ xs) h = tt
  texts-in (suc k) (close ∷ xs) h = texts-in k xs h

  events-pick : (b : Bool) (xs ys : List Event) → Events G H xs → Events G H ys → Events G H (pick b (λ u. xs) (λ u. ys))
  events-pick true xs ys h g = h
  events-pick false xs ys h g = g

  events-first : (id : List ℕ) (xs : List Event) → Events G H xs → Events G H (first_with_id id xs)
  unfolding first_with_id
  events-first id [] h = tt
  events-first id (begin e ∷ xs) h = events-pick (has_id id e) (begin e ∷ xs) (first_with_id id xs) h (events-first id xs h.1)
  events-first id (text a ∷ xs) h = events-first id xs h.1
  events-first id (other ∷ xs) h = events-first id xs h
  events-first id (close ∷ xs) h = events-first id xs h

  events-linked : (all : List Event) (href : Option Part) → Events G H all → Events G H (linked_by all href)
  events-linked all none h = tt
  events-linked all (some p) h = events-first p.bytes all h

  texts-quoted-from : (xs : List Event) → Events G H xs → Every H (quoted_from xs)
  texts-quoted-from [] h = tt
  texts-quoted-from (begin e ∷ xs) h = go (has_tag_name e)
    where
      go : (b : Bool) → Every H (pick b (λ u. texts_in zero xs) (λ u. []))
      go true = texts-in zero xs h.1
      go false = tt
  texts-quoted-from (text a ∷ xs) h = tt
  texts-quoted-from (other ∷ xs) h = tt
  texts-quoted-from (close ∷ xs) h = tt

  pub texts-quoted : (all : List Event) (e : Element) → Events G H all → Every H (quoted all e)
  unfolding quoted
  texts-quoted all e h = texts-quoted-from (linked_by all (tref_href e)) (events-linked all (tref_href e) h)

  events-copied : (all : List Event) (e : Element) (origin : ℕ) (xs : List Event) → Events G H xs → Events G H (copied all e origin xs)
  events-copied all e origin [] h = tt
  events-copied all e origin (begin l ∷ xs) h = events-pick (may_copy all e origin l xs) (begin l ∷ xs) [] h tt
  events-copied all e origin (text a ∷ xs) h = tt
  events-copied all e origin (other ∷ xs) h = tt
  events-copied all e origin (close ∷ xs) h = tt

  pub events-target : (all : List Event) (e : Element) (origin : ℕ) → Events G H all → Events G H (use_target all e origin)
  unfolding use_target
  events-target all e origin h = events-copied all e origin (linked_by all (use_href e)) (events-linked all (use_href e) h)

-- A weaker relation.
pub rel_map : {S T : Type 0} (R R' : S → T → Type 0) {a : Out S} {b : Out T} → ((s : S) (t : T) → R s t → R' s t) → Rel R a b → Rel R' a b
rel_map R R' f (both k) = both k
rel_map R R' f (same {s = s} {t = t} r) = same (f s t r)

pub then-rel : {S T S' T' : Type 0} (R : S → T → Type 0) (R' : S' → T' → Type 0) {a : Out S} {b : Out T} (f : S → Out S') (g : T → Out T') →
    Rel R a b → ((s : S) (t : T) → R s t → Rel R' (f s) (g t)) → Rel R' (then a f) (then b g)
then-rel R R' f g (both k) h = both k
then-rel R R' f g (same {s = s} {t = t} r) h = h s t r

pub pick-rel : {S T : Type 0} (R : S → T → Type 0) (b : Bool) (x y : Unit {0} → Out S) (x' y' : Unit {0} → Out T) →
    (b ≡ true → Rel R (x tt) (x' tt)) → (b ≡ false → Rel R (y tt) (y' tt)) → Rel R (pick b x y) (pick b x' y')
pick-rel R true x y x' y' h g = h refl
pick-rel R false x y x' y' h g = g refl

-- INSIDE A TEXT ELEMENT

-- The parts of a test that passed.
pub and_left : (a b : Bool) → and a b ≡ true → a ≡ true
and_left true b h = refl
and_left false b h = h

pub and_right : (a b : Bool) → and a b ≡ true → b ≡ true
and_right true b h = h
and_right false b h = let z : ◌≡◌ {A = ℕ} 0 1 = ap (λ (c : Bool). pick c (λ u. 1) (λ u. 0)) h in absurd (omega arith)

pick-code : (b : Bool) (m n : ℕ) → IsCode m → IsCode n → IsCode (pick b (λ u. m) (λ u. n))
pick-code true m n h g = h
pick-code false m n h g = g

-- `text` is one.
pub text-code : IsCode EId.Text
unfolding is_element
text-code = refl

tag-code : (x : Element) → has_tag_name x ≡ true → IsCode (tag_of x)
unfolding has_tag_name is_element
tag-code x h = pick-code (eqb x.code EId.A) EId.G x.code refl (and_right (leb x.namespace 1) (is_element x.code) h)

text-tag-code : (x : Element) → has_tag_name x ≡ true → IsCode (text_tag_of x)
unfolding has_tag_name is_element
text-tag-code x h =
    pick-code (among x.code (EId.A ∷ EId.Tref ∷ [])) EId.Tspan x.code refl (and_right (leb x.namespace 1) (is_element x.code) h)

module _ {S T : Type 0} (R : ℕ → S → T → Type 0) (F : S → T → Type 0) (G : Element → Type 0) (H : Source → Type 0) (o : Ops S) (q : Ops T)
    (all : List Event) (ok : Events G H all) (e : ℕ)
    (el : (x : Element) → G x → (c : ℕ) → IsCode c → (p : ℕ) (s : S) (t : T) → R p s t →
    Rel (Grown R (q.count t) s t) (o.element x c false p s) (q.element x c false p t))
    (tx : (from : List Source) → Every H from → (p : ℕ) (s : S) (t : T) → R p s t →
    Rel (Carried R s t) (o.text e from p s) (q.text e from p t))
    (cn : (p : ℕ) (s : S) (t : T) → R p s t → o.count s ≡ q.count t)
    (pa : (p : ℕ) (s : S) (t : T) → R p s t → o.parent p s ≡ q.parent p t)
    (pop : (p : ℕ) (s : S) (t : T) → eqb p e ≡ false → R p s t → R (q.parent p t) s t)
    (end : (p : ℕ) (s : S) (t : T) → R p s t → F s t) where
  quote-sim : (from : List Source) → Every H from → (p : ℕ) (s : S) (t : T) → R p s t →
      Rel (Carried R s t) (quote o all e from p s) (quote q all e from p t)
  quote-sim from h p s t r = pick-rel (Carried R s t) (eqb (total_size from) 0) _ _ _ _ (λ b. same (λ p' r'. r')) (λ b. tx from h p s t r)

  content-code : (x : Element) (direct : Bool) → is_text_content x direct ≡ true → IsCode (text_tag_of x)
  content-code x direct h = text-tag-code x (and_left (has_tag_name x) _ h)

  pub inside-sim : (xs : List Event) → Events G H xs → (k p : ℕ) (s : S) (t : T) → R p s t →
      Rel F (inside o all e xs k p s) (inside q all e xs k p t)
  inside-sim [] h k p s t r = same (end p s t r)
  inside-sim (begin x ∷ xs) h zero p s t r =
      pick-rel F (is_text_content x (eqb p e)) _ _ _ _
      (λ b. then-rel _ F _ _ (el x h.0 (text_tag_of x) (content-code x (eqb p e) b) p s t r) (λ s' t' r'.
      pick-rel F (eqb x.code EId.Tref) _ _ _ _
      (λ b'. rw (cn p s t r) (then-rel _ F _ _ (quote-sim (quoted all x) (texts-quoted G H all x ok) (q.count t) s' t' r'.0)
      (λ s'' t'' r''. inside-sim xs h.1 1 p s'' t'' (r'' p (r'.1 p r)))))
      (λ b'. rw (cn p s t r) (inside-sim xs h.1 zero (q.count t) s' t' r'.0))))
      (λ b. inside-sim xs h.1 1 p s t r)
  inside-sim (begin x ∷ xs) h (suc k) p s t r = inside-sim xs h.1 (suc (suc k)) p s t r
  inside-sim (text a ∷ xs) h zero p s t r =
      then-rel _ F _ _ (tx (a ∷ []) (h.0, tt) p s t r) (λ s' t' r'. inside-sim xs h.1 zero p s' t' (r' p r))
  inside-sim (text a ∷ xs) h (suc k) p s t r = inside-sim xs h.1 (suc k) p s t r
  inside-sim (other ∷ xs) h k p s t r = inside-sim xs h k p s t r
  inside-sim (close ∷ xs) h zero p s t r =
      pick-rel F (eqb p e) _ _ _ _ (λ b. same (end p s t r))
      (λ b. rw (pa p s t r) (inside-sim xs h zero (q.parent p t) s t (pop p s t b r)))
  inside-sim (close ∷ xs) h (suc k) p s t r = inside-sim xs h k p s t r

-- THE WHOLE RECURSION

-- A step from states that are so far related.
kept_on : {S T : Type 0} (R : ℕ → S → T → Type 0) {s s' : S} {t t' : T} {a : Out S} {b : Out T} → Carried R s t s' t' →
    Rel (Carried R s' t') a b →
    Rel (Carried R s t) a b
kept_on R r (both k) = both k
kept_on R r (same u) = same (λ p x. u p (r p x))

-- One step after another.
then-kept : {S T : Type 0} (R : ℕ → S → T → Type 0) {s : S} {t : T} {a : Out S} {b : Out T} (f : S → Out S) (g : T → Out T) →
    Rel (Carried R s t) a b → ((s' : S) (t' : T) → Carried R s t s' t' → Rel (Carried R s' t') (f s') (g t')) →
    Rel (Carried R s t) (then a f) (then b g)
then-kept R f g (both k) h = both k
then-kept R f g (same {s = s'} {t = t'} r) h = kept_on R r (h s' t' r)

-- A new node, and what is built below it.
grown-then : {S T : Type 0} (R : ℕ → S → T → Type 0) (n : ℕ) {s : S} {t : T} {a : Out S} {b : Out T} (f : S → Out S) (g : T → Out T) →
    Rel (Grown R n s t) a b → ((s' : S) (t' : T) → R n s' t' → Rel (Carried R s' t') (f s') (g t')) →
    Rel (Carried R s t) (then a f) (then b g)
grown-then R n f g (both k) h = both k
grown-then R n f g (same {s = s'} {t = t'} r) h = kept_on R r.1 (h s' t' r.0)

module _ {S T : Type 0} (R : ℕ → S → T → Type 0) (G : Element → Type 0) (H : Source → Type 0) (o : Ops S) (q : Ops T)
    (all : List Event) (ok : Events G H all)
    (el : (x : Element) → G x → (c : ℕ) → IsCode c → (i : Bool) (p : ℕ) (s : S) (t : T) → R p s t →
    Rel (Grown R (q.count t) s t) (o.element x c i p s) (q.element x c i p t))
    (lb : (x : Element) → G x → (xs : List Event) → Events G H xs → (i : Bool) (p : ℕ) (s : S) (t : T) → R p s t →
    Rel (Carried R s t) (label o all x xs i p s) (label q all x xs i p t))
    (cn : (p : ℕ) (s : S) (t : T) → R p s t → o.count s ≡ q.count t) where
  -- Two ways to build a node that keep the relation.
  abbrev pub Alike : Builder S → Builder T → Type 0
  Alike f g = (x : List Event) → Events G H x → (n : ℕ) (i : Bool) (p : ℕ) (s : S) (t : T) → R p s t →
      Rel (Carried R s t) (f x n i p s) (g x n i p t)

  pub each-sim : (f : Builder S) (g : Builder T) → Alike f g → (xs : List (List Event)) → Every (Events G H) xs →
      (n : ℕ) (i : Bool) (p : ℕ) (s : S) (t : T) → R p s t → Rel (Carried R s t) (each f xs n i p s) (each g xs n i p t)
  each-sim f g h [] a n i p s t r = same (λ p' r'. r')
  each-sim f g h (x ∷ xs) a n i p s t r =
      then-kept R _ _ (h x a.0 n i p s t r) (λ s' t' k. each-sim f g h xs a.1 n i p s' t' (k p r))

  copy-sim : (f : Builder S) (g : Builder T) → Alike f g → (xs : List Event) → Events G H xs → (n p : ℕ) (s : S) (t : T) → R p s t →
      Rel (Carried R s t) (copy o all f xs n p s) (copy q all g xs n p t)
  copy-sim f g h [] a n p s t r = same (λ p' r'. r')
  copy-sim f g h (x ∷ xs) a n p s t r = h (x ∷ xs) a n true p s t r

  level-sim : (f f' : Builder S) (g g' : Builder T) → Alike f g → Alike f' g' → Alike (level o all f f') (level q all g g')
  level-sim f f' g g' h h' [] a n i p s t r = same (λ p' r'. r')
  level-sim f f' g g' h h' (text b ∷ xs) a n i p s t r = same (λ p' r'. r')
  level-sim f f' g g' h h' (other ∷ xs) a n i p s t r = same (λ p' r'. r')
  level-sim f f' g g' h h' (close ∷ xs) a n i p s t r = same (λ p' r'. r')
  level-sim f f' g g' h h' (begin x ∷ xs) a n i p s t r =
      pick-rel (Carried R s t) (and (has_tag_name x) (not (eqb x.code EId.Style))) _ _ _ _
      (λ b. pick-rel (Carried R s t) (eqb x.code EId.Text) _ _ _ _ (λ b'. lb x a.0 xs a.1 i p s t r)
      (λ b'. grown-then R _ _ _ (el x a.0 (tag_of x) (tag-code x (and_left (has_tag_name x) _ b)) i p s t r) (λ s' t' r'.
      pick-rel (Carried R s' t') (eqb x.code EId.Use) _ _ _ _
      (λ c. rw (cn p s t r) (copy-sim f' g' h' (use_target all x n) (events-target G H all x n ok) x.number (q.count t) s' t' r'))
      (λ c. rw (cn p s t r) (each-sim f g h (children_from zero xs) (events-children G H zero xs a.1) n i (q.count t) s' t' r')))))
      (λ b. same (λ p' r'. r'))

  pub node-sim : (k : ℕ) → Alike (node o all k) (node q all k)
  node-sim zero = λ x a n i p s t r. both 20
  node-sim (suc zero) = level-sim refuse refuse refuse refuse (λ x a n i p s t r. both 20) (λ x a n i p s t r. both 20)
  node-sim (suc (suc k)) = level-sim _ _ _ _ (node-sim (suc k)) (node-sim k)

  -- The nodes of the top level.
  pub top-sim : (s : S) (t : T) → R 0 s t → Rel (Carried R s t) (parsed o all s) (parsed q all t)
  unfolding parsed
  top-sim s t r = each-sim _ _ (node-sim 1025) (children_from zero all) (events-children G H zero all ok) 0 false 0 s t r
