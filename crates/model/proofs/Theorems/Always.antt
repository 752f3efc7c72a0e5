-- One law for what holds of every state of the recursion: what each operation keeps, the build keeps; and a refusal has a number.
use Prim.Native.Nat.{ℕ, zero, suc, ◌+◌, ◌-◌, ◌*◌}
use Rattle.std.specs.Prelude.{refl, Bool, true, not, List, [], ◌∷◌, eqb, leb, ltb}
use Rattle.std.proofs.Common.{◌∙◌, arith, length-set}
use Rattle.std.proofs.Math.Bool.{false}
use Rattle.std.proofs.Math.ListN.{length}
use Rattle.model.specs.Base.{pick, and}
use Rattle.model.specs.EId
use Rattle.model.specs.Drawing.{Element, Source, Event, begin, text, other, close, children_from, has_tag_name, quoted, use_target}
use Rattle.model.specs.Drawing.{values_in}
use Rattle.model.specs.Tables.{Tree, Out, refused, done, then, node_room, attribute_room, text_room, cleared, rooted, text_of}
use Rattle.model.specs.Element.{entries_of, most_nodes, parse_svg_element}
use Rattle.model.specs.Text.{total_size, space_of, trim_text, joined, append_text, Trimming, stop, look, cut, cut_text, run}
use Rattle.model.specs.Text.{trim_text_nodes}
use Rattle.model.specs.Parse.{Ops, Builder, each, refuse, tag_of, text_tag_of, is_text_content, quote, inside, label, copy, level, node}
use Rattle.model.specs.Parse.{plain}
use Rattle.model.specs.Repair.{Cut, cut_entry, apply_cut, applied, repairs, repaired}
use Rattle.model.specs.Build.{parsed, with_root, first_is_svg, tested, parse_tree, with_repairs}
use Rattle.model.specs.Theorems.Unused.{SameLengths}
use Rattle.model.proofs.Theorems.Unused.{element-lengths, text-lengths, bounds-lengths, none-lengths}
use Rattle.model.specs.Theorems.Always.{Always}

pub always-then : {S T : Type 0} (P : S → Type 0) (Q : T → Type 0) (o : Out S) (f : S → Out T) → Always P o →
    ((s : S) → P s → Always Q (f s)) →
    Always Q (then o f)
always-then P Q (refused k) f h g = h
always-then P Q (done s) f h g = g s h

pub always-pick : {S : Type 0} (P : S → Type 0) (b : Bool) (x y : Unit {0} → Out S) → Always P (x tt) → Always P (y tt) →
    Always P (pick b x y)
always-pick P true x y h g = h
always-pick P false x y h g = g

module _ {S : Type 0} (P : S → Type 0) (o : Ops S) (all : List Event)
    (el : (x : Element) (c : ℕ) (i : Bool) (p : ℕ) (s : S) → P s → Always P (o.element x c i p s))
    (tx : (e : ℕ) (from : List Source) (p : ℕ) (s : S) → P s → Always P (o.text e from p s))
    (fin : (e : ℕ) (s : S) → P s → P (o.finish e s)) where
  inside-always : (e : ℕ) (xs : List Event) (k p : ℕ) (s : S) → P s → Always P (inside o all e xs k p s)
  inside-always e [] k p s h = h
  inside-always e (begin x ∷ xs) zero p s h =
      always-pick P (is_text_content x (eqb p e)) _ _
      (always-then P P (o.element x (text_tag_of x) false p s) _ (el x (text_tag_of x) false p s h) (λ r g.
      always-pick P (eqb x.code EId.Tref) _ _
      (always-then P P (quote o all e (quoted all x) (o.count s) r) _
      (always-pick P (eqb (total_size (quoted all x)) 0) _ _ g (tx e (quoted all x) (o.count s) r g)) (λ q f. inside-always e xs 1 p q f))
      (inside-always e xs zero (o.count s) r g)))
      (inside-always e xs 1 p s h)
  inside-always e (begin x ∷ xs) (suc k) p s h = inside-always e xs (suc (suc k)) p s h
  inside-always e (text a ∷ xs) zero p s h = always-then P P (o.text e (a ∷ []) p s) _ (tx e (a ∷ []) p s h)
      (λ r g. inside-always e xs zero p r g)
  inside-always e (text a ∷ xs) (suc k) p s h = inside-always e xs (suc k) p s h
  inside-always e (other ∷ xs) k p s h = inside-always e xs k p s h
  inside-always e (close ∷ xs) zero p s h = always-pick P (eqb p e) _ _ h (inside-always e xs zero (o.parent p s) s h)
  inside-always e (close ∷ xs) (suc k) p s h = inside-always e xs k p s h

  label-always : (x : Element) (xs : List Event) (i : Bool) (p : ℕ) (s : S) → P s → Always P (label o all x xs i p s)
  label-always x xs i p s h =
      always-then P P (o.element x EId.Text i p s) _ (el x EId.Text i p s h) (λ r g.
      always-then P P (inside o all (o.count s) xs zero (o.count s) r) _ (inside-always (o.count s) xs zero (o.count s) r g)
      (λ q f. fin (o.count s) q f))

  -- A way to build a node that keeps it.
  abbrev Keeps : Builder S → Type 0
  Keeps f = (x : List Event) (n : ℕ) (i : Bool) (p : ℕ) (s : S) → P s → Always P (f x n i p s)

  each-always : (f : Builder S) → Keeps f → (xs : List (List Event)) (n : ℕ) (i : Bool) (p : ℕ) (s : S) → P s → Always P (each f xs n i p s)
  each-always f k [] n i p s h = h
  each-always f k (x ∷ xs) n i p s h = always-then P P (f x n i p s) _ (k x n i p s h) (λ r g. each-always f k xs n i p r g)

  copy-always : (f : Builder S) → Keeps f → (xs : List Event) (n p : ℕ) (s : S) → P s → Always P (copy o all f xs n p s)
  copy-always f k [] n p s h = h
  copy-always f k (x ∷ xs) n p s h = k (x ∷ xs) n true p s h

  level-always : (f g : Builder S) → Keeps f → Keeps g → Keeps (level o all f g)
  level-always f g k l [] n i p s h = h
  level-always f g k l (text a ∷ xs) n i p s h = h
  level-always f g k l (other ∷ xs) n i p s h = h
  level-always f g k l (close ∷ xs) n i p s h = h
  level-always f g k l (begin x ∷ xs) n i p s h =
      always-pick P (and (has_tag_name x) (not (eqb x.code EId.Style))) _ _
      (always-pick P (eqb x.code EId.Text) _ _ (label-always x xs i p s h)
      (always-then P P (o.element x (tag_of x) i p s) _ (el x (tag_of x) i p s h) (λ r m.
      always-pick P (eqb x.code EId.Use) _ _ (copy-always g l (use_target all x n) x.number (o.count s) r m)
      (each-always f k (children_from zero xs) n i (o.count s) r m))))
      h

  refuse-always : Keeps refuse
  refuse-always x n i p s h = λ e. omega arith

  node-always : (k : ℕ) → Keeps (node o all k)
  node-always zero = refuse-always
  node-always (suc zero) = level-always refuse refuse refuse-always refuse-always
  node-always (suc (suc k)) = level-always (node o all (suc k)) (node o all k) (node-always (suc k)) (node-always k)

  pub parsed-always : (s : S) → P s → Always P (parsed o all s)
  unfolding parsed
  parsed-always s h = each-always (node o all 1025) (node-always 1025) (children_from zero all) 0 false 0 s h

-- THE TABLES KEEP THEIR LENGTHS

lengths-then : (s t u : Tree) → SameLengths s t → SameLengths t u → SameLengths s u
lengths-then s t u a b = record { nodes = a.nodes ∙ b.nodes; attributes = a.attributes ∙ b.attributes; text = a.text ∙ b.text }

run-lengths : (g : Trimming) (t : Tree) → SameLengths (run g t) t
unfolding run cut_text
run-lengths stop t = record { nodes = refl; attributes = refl; text = refl }
run-lengths (look i k) t = run-lengths (k (text_of t i)) t
run-lengths (cut i a b k) t = lengths-then (run k (cut_text i a b t)) (cut_text i a b t) t (run-lengths k (cut_text i a b t))
    (bounds-lengths i _ _ t)

cut-lengths : (t : Tree) (c : Cut) → SameLengths (apply_cut t c) t
unfolding apply_cut
cut-lengths t c = go (eqb (cut_entry t c.pass c.node) 0)
  where
    go : (b : Bool) → SameLengths (pick b (λ u. t) (λ u. Rattle.model.specs.Tables.set_none (cut_entry t c.pass c.node - 1) t)) t
    go true = record { nodes = refl; attributes = refl; text = refl }
    go false = none-lengths (cut_entry t c.pass c.node - 1) t

cuts-lengths : (t : Tree) (cs : List Cut) → SameLengths (applied t cs) t
unfolding applied
cuts-lengths t [] = record { nodes = refl; attributes = refl; text = refl }
cuts-lengths t (c ∷ cs) = lengths-then _ (apply_cut t c) t (cuts-lengths (apply_cut t c) cs) (cut-lengths t c)

root-lengths : (t : Tree) → SameLengths (rooted t) t
unfolding rooted
root-lengths t = record { nodes = length-set t.nodes (8 * 0 + 0) 1; attributes = refl; text = refl }

module _ (chars : List ℕ) (base : Tree) where
  -- As long as the tables that were lent.
  abbrev AsLent : Tree → Type 0
  AsLent t = SameLengths t base

  element-lent : (x : Element) (c : ℕ) (i : Bool) (p : ℕ) (t : Tree) → AsLent t → Always AsLent ((plain chars).element x c i p t)
  unfolding parse_svg_element
  element-lent x c i p t h =
      let es = entries_of t p c i x in
      always-pick AsLent (leb (t.attribute_count + length es) (attribute_room t)) _ _
      (always-pick AsLent (leb t.node_count most_nodes) _ _
      (always-pick AsLent (ltb t.node_count (node_room t)) _ _ (lengths-then _ t base (element-lengths c es p t) h) (λ e. omega arith))
      (λ e. omega arith)) (λ e. omega arith)

  text-lent : (e : ℕ) (from : List Source) (p : ℕ) (t : Tree) → AsLent t → Always AsLent ((plain chars).text e from p t)
  unfolding append_text
  text-lent e from p t h =
      always-pick AsLent (leb (t.text_count + total_size from) (text_room t)) _ _
      (always-pick AsLent (ltb t.node_count (node_room t)) _ _
      (lengths-then _ t base (text-lengths (trim_text (space_of chars t p) (joined chars from)) (total_size from) p t) h)
      (λ x. omega arith))
      (λ x. omega arith)

  finish-lent : (e : ℕ) (t : Tree) → AsLent t → AsLent ((plain chars).finish e t)
  unfolding trim_text_nodes
  finish-lent e t h = lengths-then _ t base (run-lengths _ t) h

-- A build of a drawing that check takes: the tables are as long as they were lent, and a refusal has a number.
pub built-lengths : (chars : List ℕ) (all : List Event) (n m b : ℕ) →
    Always (λ t. SameLengths t (cleared n m b)) (with_repairs chars all (parse_tree (plain chars) all (cleared n m b)))
unfolding parse_tree with_root tested repaired
built-lengths chars all n m b =
    always-then P P (then (with_root base) (λ r. then (parsed (plain chars) all r) tested)) _
    (always-then P P (with_root base) _
    (always-pick P (ltb 0 (node_room base)) _ _ root (λ e. omega arith)) (λ r h.
    always-then P P (parsed (plain chars) all r) tested
    (parsed-always P (plain chars) all (element-lent chars base) (text-lent chars base) (finish-lent chars base) r h) (λ s g.
    always-pick P (first_is_svg s) _ _ g (λ e. omega arith))))
    (λ t h. lengths-then _ t base (cuts-lengths t (repairs chars (values_in all) t)) h)
  where
    base : Tree
    base = cleared n m b

    P : Tree → Type 0
    P t = SameLengths t base

    root : SameLengths (rooted base) base
    root = root-lengths base
