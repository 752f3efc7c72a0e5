-- One law for what holds of every state of the recursion, where each step knows that its parent is a node of the tree, and the steps inside
-- a text element keep a fact of their own.
use Prim.Native.Nat.{ℕ, zero, suc, ◌+◌, ◌≤◌, ◌<◌}
use Rattle.std.specs.Prelude.{Bool, true, not, eqb}
use Rattle.std.proofs.Math.Bool.{false}
use mathlib.Core.List.{List, [], ◌∷◌}
use Rattle.std.proofs.Math.Option.{Option, none, some}
use Rattle.std.proofs.Common.{arith}
use Rattle.model.specs.Base.{pick, and}
use Rattle.model.specs.EId
use Rattle.model.specs.Drawing.{Part, Element, Source, Event, begin, text, other, close, children_from, has_id, first_with_id, linked_by}
use Rattle.model.specs.Drawing.{use_href, has_tag_name, quoted, may_copy, copied, use_target}
use Rattle.model.specs.Tables.{Out, refused, done}
use Rattle.model.specs.Text.{total_size}
use Rattle.model.specs.Parse.{Ops, Builder, each, refuse, tag_of, text_tag_of, is_text_content, quote, inside, label, copy, level, node}
use Rattle.model.specs.Build.{parsed}
use Rattle.model.specs.Theorems.Always.{Always}
use Rattle.model.proofs.Theorems.Always.{always-then, always-pick}
use Rattle.model.specs.Theorems.Sim.{Every, Events}
use Rattle.model.proofs.Theorems.Sim.{texts-quoted}

-- H holds of every text of a document.
abbrev pub TextsOf : (Source → Type 0) → List Event → Type 0
TextsOf H xs = Events (λ e. Unit {0}) H xs

module _ (H : Source → Type 0) where
  texts-children : (k : ℕ) (xs : List Event) → TextsOf H xs → Every (TextsOf H) (children_from k xs)
  unfolding children_from
  texts-children k [] h = tt
  texts-children zero (begin e ∷ xs) h = (h, texts-children 1 xs h.1)
  texts-children (suc k) (begin e ∷ xs) h = texts-children (suc (suc k)) xs h.1
  texts-children zero (text a ∷ xs) h = (h, texts-children zero xs h.1)
  texts-children (suc k) (text a ∷ xs) h = texts-children (suc k) xs h.1
  texts-children zero (other ∷ xs) h = (h, texts-children zero xs h)
  texts-children (suc k) (other ∷ xs) h = texts-children (suc k) xs h
  texts-children zero (close ∷ xs) h = tt
  texts-children (suc k) (close ∷ xs) h = texts-children k xs h

  texts-pick : (b : Bool) (xs ys : List Event) → TextsOf H xs → TextsOf H ys → TextsOf H (pick b (λ u. xs) (λ u. ys))
  texts-pick true xs ys h g = h
  texts-pick false xs ys h g = g

  texts-first : (id : List ℕ) (xs : List Event) → TextsOf H xs → TextsOf H (first_with_id id xs)
  unfolding first_with_id
  texts-first id [] h = tt
  texts-first id (begin e ∷ xs) h = texts-pick (has_id id e) (begin e ∷ xs) (first_with_id id xs) h (texts-first id xs h.1)
  texts-first id (text a ∷ xs) h = texts-first id xs h.1
  texts-first id (other ∷ xs) h = texts-first id xs h
  texts-first id (close ∷ xs) h = texts-first id xs h

  texts-linked : (all : List Event) (href : Option Part) → TextsOf H all → TextsOf H (linked_by all href)
  texts-linked all none h = tt
  texts-linked all (some p) h = texts-first p.bytes all h

  texts-copied : (all : List Event) (e : Element) (origin : ℕ) (xs : List Event) → TextsOf H xs → TextsOf H (copied all e origin xs)
  texts-copied all e origin [] h = tt
  texts-copied all e origin (begin l ∷ xs) h = texts-pick (may_copy all e origin l xs) (begin l ∷ xs) [] h tt
  texts-copied all e origin (text a ∷ xs) h = tt
  texts-copied all e origin (other ∷ xs) h = tt
  texts-copied all e origin (close ∷ xs) h = tt

  texts-target : (all : List Event) (e : Element) (origin : ℕ) → TextsOf H all → TextsOf H (use_target all e origin)
  unfolding use_target
  texts-target all e origin h = texts-copied all e origin (linked_by all (use_href e)) (texts-linked all (use_href e) h)

module _ {S : Type 0} (o : Ops S) where
  -- A state for which P holds, with at least n nodes.
  abbrev pub AtLeast : (S → Type 0) → ℕ → S → Type 0
  AtLeast P n s = P s × (n ≤ o.count s)

module _ {S : Type 0} (o : Ops S) (all : List Event) (H : Source → Type 0) (ok : TextsOf H all) where
  -- INSIDE THE TEXT ELEMENT e
  module _ (e : ℕ) (P : S → Type 0)
      (el : (x : Element) (c p : ℕ) (s : S) → p < o.count s → P s → Always (AtLeast o P (o.count s + 1)) (o.element x c false p s))
      (tx : (from : List Source) → Every H from → (p : ℕ) (s : S) → p < o.count s → P s →
      Always (AtLeast o P (o.count s + 1)) (o.text e from p s))
      (up : (p : ℕ) (s : S) → p < o.count s → P s → o.parent p s < o.count s) where
    pub inside-law : (xs : List Event) → TextsOf H xs → (k p : ℕ) (s : S) → p < o.count s → P s → Always P (inside o all e xs k p s)
    inside-law [] t k p s l h = h
    inside-law (begin x ∷ xs) t zero p s l h =
        always-pick P (is_text_content x (eqb p e)) _ _
        (always-then (AtLeast o P (o.count s + 1)) P (o.element x (text_tag_of x) false p s) _ (el x (text_tag_of x) p s l h) (λ r g.
        always-pick P (eqb x.code EId.Tref) _ _
        (always-then (AtLeast o P (o.count s + 1)) P (quote o all e (quoted all x) (o.count s) r) _
        (always-pick (AtLeast o P (o.count s + 1)) (eqb (total_size (quoted all x)) 0) _ _ g
        (weaker (o.count r) (o.count s) (o.text e (quoted all x) (o.count s) r) (omega (arith, g.1))
        (tx (quoted all x) (texts-quoted (λ e. Unit {0}) H all x ok) (o.count s) r (omega (arith, g.1)) g.0)))
        (λ q f. inside-law xs t.1 1 p q (omega (arith, f.1)) f.0))
        (inside-law xs t.1 zero (o.count s) r (omega (arith, g.1)) g.0)))
        (inside-law xs t.1 1 p s l h)
      where
        weaker : (n m : ℕ) (x : Out S) → m ≤ n → Always (AtLeast o P (n + 1)) x → Always (AtLeast o P (m + 1)) x
        weaker n m (refused k) l h = h
        weaker n m (done q) l h = (h.0, omega (arith, h.1))
    inside-law (begin x ∷ xs) t (suc k) p s l h = inside-law xs t.1 (suc (suc k)) p s l h
    inside-law (text a ∷ xs) t zero p s l h =
        always-then (AtLeast o P (o.count s + 1)) P (o.text e (a ∷ []) p s) _ (tx (a ∷ []) (t.0, tt) p s l h)
        (λ r g. inside-law xs t.1 zero p r (omega (arith, g.1)) g.0)
    inside-law (text a ∷ xs) t (suc k) p s l h = inside-law xs t.1 (suc k) p s l h
    inside-law (other ∷ xs) t k p s l h = inside-law xs t k p s l h
    inside-law (close ∷ xs) t zero p s l h = always-pick P (eqb p e) _ _ h (inside-law xs t zero (o.parent p s) s (up p s l h) h)
    inside-law (close ∷ xs) t (suc k) p s l h = inside-law xs t k p s l h

  -- THE WHOLE
  module _ (P : S → Type 0)
      (el : (x : Element) (c : ℕ) (i : Bool) (p : ℕ) (s : S) → p < o.count s → P s →
      Always (AtLeast o P (o.count s + 1)) (o.element x c i p s))
      (lb : (x : Element) (xs : List Event) → TextsOf H xs → (i : Bool) (p : ℕ) (s : S) → p < o.count s → P s →
      Always (AtLeast o P (o.count s)) (label o all x xs i p s)) where
    -- A way to build a node that keeps P and takes no node away.
    abbrev Keeps : Builder S → Type 0
    Keeps f = (x : List Event) → TextsOf H x → (n : ℕ) (i : Bool) (p : ℕ) (s : S) → p < o.count s → P s →
        Always (AtLeast o P (o.count s)) (f x n i p s)

    more : (n m : ℕ) (x : Out S) → m ≤ n → Always (AtLeast o P n) x → Always (AtLeast o P m) x
    more n m (refused k) l h = h
    more n m (done q) l h = (h.0, omega (arith, h.1))

    each-law : (f : Builder S) → Keeps f → (xs : List (List Event)) → Every (TextsOf H) xs → (n : ℕ) (i : Bool) (p : ℕ) (s : S) →
        p < o.count s → P s →
        Always (AtLeast o P (o.count s)) (each f xs n i p s)
    each-law f k [] t n i p s l h = (h, omega arith)
    each-law f k (x ∷ xs) t n i p s l h =
        always-then (AtLeast o P (o.count s)) (AtLeast o P (o.count s)) (f x n i p s) _ (k x t.0 n i p s l h)
        (λ r g. more (o.count r) (o.count s) (each f xs n i p r) g.1 (each-law f k xs t.1 n i p r (omega (arith, g.1)) g.0))

    copy-law : (f : Builder S) → Keeps f → (xs : List Event) → TextsOf H xs → (n p : ℕ) (s : S) → p < o.count s → P s →
        Always (AtLeast o P (o.count s)) (copy o all f xs n p s)
    copy-law f k [] t n p s l h = (h, omega arith)
    copy-law f k (x ∷ xs) t n p s l h = k (x ∷ xs) t n true p s l h

    level-law : (f g : Builder S) → Keeps f → Keeps g → Keeps (level o all f g)
    level-law f g k m [] t n i p s l h = (h, omega arith)
    level-law f g k m (text a ∷ xs) t n i p s l h = (h, omega arith)
    level-law f g k m (other ∷ xs) t n i p s l h = (h, omega arith)
    level-law f g k m (close ∷ xs) t n i p s l h = (h, omega arith)
    level-law f g k m (begin x ∷ xs) t n i p s l h =
        always-pick (AtLeast o P (o.count s)) (and (has_tag_name x) (not (eqb x.code EId.Style))) _ _
        (always-pick (AtLeast o P (o.count s)) (eqb x.code EId.Text) _ _ (lb x xs t.1 i p s l h)
        (always-then (AtLeast o P (o.count s + 1)) (AtLeast o P (o.count s)) (o.element x (tag_of x) i p s) _
        (el x (tag_of x) i p s l h) (λ r q.
        always-pick (AtLeast o P (o.count s)) (eqb x.code EId.Use) _ _
        (more (o.count r) (o.count s) (copy o all g (use_target all x n) x.number (o.count s) r) (omega (arith, q.1))
        (copy-law g m (use_target all x n) (texts-target H all x n ok) x.number (o.count s) r (omega (arith, q.1)) q.0))
        (more (o.count r) (o.count s) (each f (children_from zero xs) n i (o.count s) r) (omega (arith, q.1))
        (each-law f k (children_from zero xs) (texts-children H zero xs t.1) n i (o.count s) r (omega (arith, q.1)) q.0)))))
        (h, omega arith)

    refuse-law : Keeps refuse
    refuse-law x t n i p s l h = λ e. omega arith

    node_law : (k : ℕ) → Keeps (node o all k)
    node_law zero = refuse-law
    node_law (suc zero) = level-law refuse refuse refuse-law refuse-law
    node_law (suc (suc k)) = level-law (node o all (suc k)) (node o all k) (node_law (suc k)) (node_law k)

    pub parsed-law : (s : S) → 0 < o.count s → P s → Always (AtLeast o P (o.count s)) (parsed o all s)
    unfolding parsed
    parsed-law s l h = each-law (node o all 1025) (node_law 1025) (children_from zero all) (texts-children H zero all ok) 0 false 0 s l h
