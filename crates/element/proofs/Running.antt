-- The loops over the attributes and over the declarations of an element. Assumes nothing.
use Prim.Native.Nat.{ℕ, ◌≤◌}
use mathlib.Core.Path.{◌≡◌, refl}
use mathlib.Core.Bool.{Bool, true, false, not}
use mathlib.Core.List.{List, [], ◌∷◌}
use mathlib.Core.Option.{Option, none, some}
use native.Mathlib.Omega.{arith}
use Rattle.std.proofs.Common.{Result, Ok, Err}
use Rattle.refusal.specs.declared.Refusal.{Refusal}
use lib.Dec.{eqb}
use lib.ListN.{length, length-append}
use Rattle.model.specs.Base.{pick, and, given, folded, Pair}
use Rattle.model.specs.AId
use Rattle.model.specs.Names.{font_resets, is_presentation}
use Rattle.model.specs.Drawing.{Part, Value, Attribute, Declaration, reading_of, value_at}
use Rattle.model.specs.Check.{most_bytes}
use Rattle.model.specs.Tables.{Tree, Entry}
use Rattle.model.specs.Element.{append_attribute, is_taken, has_entry, on_first, with_value, with_more, add_attribute}
use Rattle.model.specs.Element.{marker, insert_attribute, reset_to, insert_part, font_parts, is_read, write_declaration}
use Rattle.model.proofs.Theorems.Runs.{add_same, write_same}
use Rattle.model.specs.Theorems.Sim.{Every}
use Rattle.model.specs.Theorems.Inside.{LiesValue}
use Rattle.script.specs.declared.drawing.Drawing.{Drawing}
use Rattle.script.specs.declared.cursor.Cursor.{Cursor}
use Rattle.script.specs.Step.{Fit}
use Rattle.walk.specs.declared.value.ValueAt.{ValueAt}
use Rattle.walk.specs.Values.{attributes_in, declarations_in, SameNodes, SameRest, value_of, Attributed}
use Rattle.tree.specs.Lent.{read_of}
use Rattle.entries.specs.declared.Place.{Place}
use Rattle.entries.specs.declared.Value as E
use Rattle.entries.specs.Space.{Space, Leaves, so_far, attribute_of, Above}
use Rattle.element.specs.Font.{value_from, Held, declared_in}
use Rattle.element.specs.Runs.{added_in}
use Rattle.entries.proofs.Storing.{first_count}
use Rattle.entries.proofs.Inserting.{inserts-more, agree_on}
use Rattle.entries.proofs.Steps.{folded_more, Steady, Towards, at_first, step-on, step-full, at-end}

-- What a loop walks over: the things from a cursor on, the value of each, and what of the script stays the same behind them.
pub record Things : Type 1 where
  pub Thing : Type 0
  pub inside : Cursor → List Thing
  pub valued : Thing → Value
  pub Same : Cursor → Cursor → Type 0

-- The loop's invariant: the cursor c is behind some of the things, and their entries are stored.
pub record Running (t : Things) (size : ℕ) (f : List ℕ → List Entry → t.Thing → List Entry) (ats : List ℕ) (place : Place)
    (goal : List Entry) (from c : Cursor) (n : ℕ) (m : List ℕ) : Type 0 where
  pub same : t.Same from c
  pub lies : Every (λ (x : t.Thing). LiesValue size (t.valued x)) (t.inside c)
  pub towards : Towards f ats place goal (t.inside c) n m

module _ (t : Things) (size : ℕ) (f : List ℕ → List Entry → t.Thing → List Entry) (ats : List ℕ) (place : Place) where
  pub run-first : (c : Cursor) (n : ℕ) → t.Same c c → Every (λ (x : t.Thing). LiesValue size (t.valued x)) (t.inside c) →
      Space ats place n → Running t size f ats place (folded (f ats) (so_far ats place n) (t.inside c)) c c n ats
  run-first c n same lies s = record { same = same; lies = lies; towards = at_first f ats place n s (t.inside c) }

  module _ (goal : List Entry) (from c : Cursor) (n : ℕ) (m : List ℕ) (run : Running t size f ats place goal from c n m) where
    pub run_end : Steady f ats place → [] ≡ t.inside c → Leaves ats place goal (Ok n) m
    run_end h e = at-end f ats place h goal n m (rw (← e) at run.towards)

    -- One thing more.
    module _ (x : t.Thing) (next : Cursor) (e : x ∷ t.inside next ≡ t.inside c) where
      pub run_lies : LiesValue size (t.valued x)
      run_lies = (rw (← e) at run.lies).0

      module _ (h : Steady f ats place) (r : Result ℕ Refusal) (l : List ℕ) (step : Leaves m place (f m (so_far m place n) x) r l) where
        pub run_step : t.Same from next → (k : ℕ) → r ≡ Ok k → Running t size f ats place goal from next k l
        run_step same k q = record {
          same = same;
          lies = (rw (← e) at run.lies).1;
          towards = step-on f ats place h goal n m x (t.inside next) (rw (← e) at run.towards) r l step k q;
        }

        pub run-stop : (p q : Refusal) (o : Result ℕ Refusal) → r ≡ Err p → o ≡ Err q → q ≡ p → Leaves ats place goal o l
        run-stop p q o d i j = step-full f ats place h goal n m x (t.inside next) (rw (← e) at run.towards) r l step p q o d i j

-- THE ATTRIBUTES, THE DECLARATIONS

abbrev pub all_attributes : Drawing → Things
all_attributes drawing = record {
  Thing = Attribute;
  inside = attributes_in drawing;
  valued = λ a. a.value;
  Same = SameRest drawing;
}

abbrev pub all_declarations : Drawing → Things
all_declarations drawing = record {
  Thing = Declaration;
  inside = declarations_in drawing;
  valued = λ d. d.value;
  Same = SameNodes drawing;
}

pub nodes-none : (drawing : Drawing) (c : Cursor) → Fit drawing c → SameNodes drawing c c
nodes-none drawing c f = record { fit = f; later = omega arith; events = refl }

pub rest-none : (drawing : Drawing) (c : Cursor) → Fit drawing c → SameRest drawing c c
rest-none drawing c f = record { nodes = nodes-none drawing c f; declarations = refl }

more-grows : (es : List Entry) (o : Option Entry) → length es ≤ length (with_more es o)
more-grows es none = omega arith
more-grows es (some e) = rw length-append (omega arith)

add-grows : (t : Tree) (p tag : ℕ) (ignored : Bool) (es : List Entry) (x : Attribute) →
    length es ≤ length (add_attribute t p tag ignored es x)
unfolding add_attribute
add-grows t p tag ignored es x = go (not (is_taken ignored x)) (and (eqb x.name AId.Href) (has_entry AId.Href es)) (eqb x.namespace 0)
  where
    o : Option Entry
    o = append_attribute t p tag x.name 0 x.value.part x.value.command

    go : (a b c : Bool) → length es ≤ length (pick a (λ u. es) (λ u. pick b
        (λ v. pick c (λ w. on_first (with_value x.value) AId.Href es) (λ w. es)) (λ v. with_more es o)))
    go true b c = omega arith
    go false true true = omega (arith, first_count (with_value x.value) AId.Href es)
    go false true false = omega arith
    go false false c = more-grows es o

write-grows : (t : Tree) (p tag : ℕ) (d : Declaration) (es : List Entry) → length es ≤ length (write_declaration t p tag d es)
unfolding write_declaration
write-grows t p tag d es =
    go (eqb d.name marker) (eqb d.name AId.Font) (and (is_read t p tag d 9) (is_read t p tag d 10)) (is_presentation d.name)
  where
    insert : List Entry → ℕ → List Entry
    insert es a = insert_attribute t p tag d es a d.value.part

    part-more : (es : List Entry) (k : Pair) (o : Option Part) →
        length es ≤ length (given o (λ v. insert_attribute t p tag d es k.value v) (λ u. es))
    part-more es k none = omega arith
    part-more es k (some v) = inserts-more k.value es _

    go : (a b c e : Bool) → length es ≤ length (pick a
        (λ u. folded insert es (AId.MarkerStart ∷ AId.MarkerMid ∷ AId.MarkerEnd ∷ []))
        (λ u. pick b (λ v. pick c (λ w. folded (insert_part t p tag d) (folded (reset_to t p tag d) es font_resets) font_parts) (λ w. es))
        (λ v. pick e (λ w. insert es d.name) (λ w. es))))
    go true b c e = folded_more insert (λ es a. inserts-more a es _) (AId.MarkerStart ∷ AId.MarkerMid ∷ AId.MarkerEnd ∷ []) es
    go false true true e =
        let one = folded_more (reset_to t p tag d) (λ es r. inserts-more r.key es _) font_resets es in
        let two = folded_more (insert_part t p tag d) (λ es k. part-more es k (reading_of k.key d.value.readings)) font_parts
        (folded (reset_to t p tag d) es font_resets) in
        omega (arith, one, two)
    go false true false e = omega arith
    go false false c true = inserts-more d.name es _
    go false false c false = omega arith

module _ (ns ats : List ℕ) (place : Place) (above : Above ns place) where
  pub adds-steady : (ignored : Bool) → Steady (added_in ns place ignored) ats place
  adds-steady ignored = record {
    grows = λ m. add-grows (read_of ns m) place.parent place.tag ignored;
    same = λ new n m o es x.
        add_same (read_of ns ats) m [] 0 0 0 place.parent place.first (agree_on ns ats [] place above new n m o) above.falls
        above.range place.tag ignored es x;
  }

  pub writes-steady : Steady (declared_in ns place) ats place
  writes-steady = record {
    grows = λ m es d. write-grows (read_of ns m) place.parent place.tag d es;
    same = λ new n m o es d.
        write_same (read_of ns ats) m [] 0 0 0 place.parent place.first (agree_on ns ats [] place above new n m o) above.falls
        above.range place.tag d es;
  }

-- It can be stored.
module _ (drawing : Drawing) (small : length drawing.characters.now ≤ most_bytes) (c : Cursor) (v : ValueAt) where
  pub held-attributed : Attributed drawing c v → LiesValue (length drawing.characters.now) (value_of drawing v) → Held drawing v
  held-attributed d l = record { own = d.own; behind = d.rest.nodes.fit; lies = l; small = small }

-- What is read in an attribute's value does not matter to its entry.
pub added-whole : (drawing : Drawing) (ns m : List ℕ) (place : Place) (ignored : Bool) (n name space : ℕ) (v : ValueAt) (value : E.Value) →
    value ≡ value_from v → (r : Result ℕ Refusal) (l : List ℕ) →
    Leaves m place (added_in ns place ignored m (so_far m place n) (attribute_of drawing.characters.now name space value)) r l →
    Leaves m place (added_in ns place ignored m (so_far m place n)
    (record { name = name; namespace = space; value = value_of drawing v })) r l
unfolding add_attribute is_taken value_at
added-whole drawing ns m place ignored n name space v value e r l h = rw e at h
