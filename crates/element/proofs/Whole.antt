-- An element: its entries, then its node. Assumes nothing.
use Prim.Native.Nat.{ℕ, ◌+◌, ◌-◌, ◌*◌, ◌≤◌, ◌<◌}
use mathlib.Core.Path.{◌≡◌, refl, sym, ap, ◌∙◌}
use mathlib.Core.Bool.{Bool, true, false}
use mathlib.Core.List.{List, [], ◌∷◌}
use native.Mathlib.Omega.{arith}
use Rattle.std.proofs.Common.{Result, Ok, Err}
use Rattle.refusal.specs.declared.Refusal.{Refusal}
use Rattle.refusal.specs.declared.Refusal.TheVariants.{AttributesFull}
use borrow.Author.Tests.{le-leb, lt-leb, leb-true, lt-ltb, le-ltb}
use lib.Dec.{leb, ltb}
use lib.ListN.{length}
use Rattle.model.specs.Base.{pick, folded}
use Rattle.model.specs.Drawing.{Attribute, Declaration}
use Rattle.model.specs.Tables.{Tree, Entry, Out, refused, done, ELEMENT, word, appended, add_element, node_room, attribute_room}
use Rattle.model.specs.Element.{add_attribute, write_declaration, entries_of, most_nodes, parse_svg_element}
use Rattle.model.specs.Theorems.Runs.{table_of, entries_from, with_run}
use Rattle.model.proofs.Theorems.Runs.{add_same, write_same}
use Rattle.script.specs.declared.drawing.Drawing.{Drawing}
use Rattle.script.specs.declared.cursor.Cursor.{Cursor}
use Rattle.walk.specs.declared.node.Opened.{Opened}
use Rattle.walk.specs.Nodes.{element_of}
use Rattle.walk.specs.Values.{attributes_in, declarations_in, SameRest}
use Rattle.tree.specs.declared.Counts.{Counts}
use Rattle.tree.specs.Lent.{tree_of, read_of, nodes_read}
use Rattle.entries.specs.declared.Place.{Place}
use Rattle.element.specs.declared.Run.{Run}
use Rattle.entries.specs.Space.{Leaves, so_far, Above}
use Rattle.element.specs.Font.{declared_in}
use Rattle.element.specs.Runs.{added_in, entries_in, stored_of, RunNodes, Ready}
use Rattle.walk.proofs.Finding.{nodes-on}
use Rattle.entries.proofs.Storing.{On}
use Rattle.entries.proofs.Inserting.{on-told}
use Rattle.entries.proofs.Steps.{run_on, run-full}
use Rattle.element.proofs.Running.{writes-steady}

none_yet : (ats : List ℕ) (place : Place) → so_far ats place place.first ≡ []
unfolding entries_from
none_yet ats place = let z : place.first - place.first ≡ 0 = omega arith in rw z refl

module _ (drawing : Drawing) (ns ats : List ℕ) (place : Place) (ignored : Bool) (from : Cursor) (room : 5 * place.room ≤ length ats)
    (above : Above ns place) (r : Result Run Refusal) (m : List ℕ)
    (step : Leaves ats place (folded (added_in ns place ignored ats) (so_far ats place place.first) (attributes_in drawing from))
    (stored_of r) m) where
  -- The entries of the attributes.
  abbrev pub added : List Entry
  added = folded (added_in ns place ignored ats) [] (attributes_in drawing from)

  step-none : Leaves ats place added (stored_of r) m
  step-none = rw (none_yet ats place) at step

  pub entries-full : (p q : Refusal) (o : Result Run Refusal) → r ≡ Err p → o ≡ Err q → q ≡ p →
      Leaves ats place (entries_in drawing ns place ignored ats from) (stored_of o) m
  entries-full p q o e d i =
      run-full (declared_in ns place) ats place (writes-steady ns ats place above) added (declarations_in drawing from) room (stored_of
      r) m
      step-none p q (stored_of o) (ap stored_of e) (ap stored_of d) i

  module _ (x : Run) (e : r ≡ Ok x) where
    pub entries-on : On ats place added x.next m
    entries-on = on-told ats place room added (stored_of r) m step-none x.next (ap stored_of e)

    pub entries-behind : declarations_in drawing x.behind ≡ declarations_in drawing from →
        (o : Result ℕ Refusal) (l : List ℕ) →
        Leaves m place (folded (declared_in ns place m) (so_far m place x.next) (declarations_in drawing x.behind)) o l →
        Leaves ats place (entries_in drawing ns place ignored ats from) o l
    entries-behind same o l h =
        run_on (declared_in ns place) ats place (writes-steady ns ats place above) added (declarations_in drawing from) x.next m
        entries-on o l
        (rw same at h)

-- What is behind the declarations is behind the attributes.
pub run-nodes : (drawing : Drawing) (from c : Cursor) (r : Result Run Refusal) → SameRest drawing from c →
    RunNodes drawing c r → RunNodes drawing from r
run-nodes drawing from c (Ok x) s h = nodes-on drawing from c x.behind s.nodes h
run-nodes drawing from c (Err r) s h = tt

-- THE NODE

-- What an answer says of the test for room.
full-answer : (b : Bool) (n : ℕ) (q : Refusal) → Err q ≡ pick b (λ u. Ok n) (λ u. Err AttributesFull) → (b ≡ false) × (q ≡ AttributesFull)
full-answer true n q e = absurd cc
full-answer false n q e = (refl, cc)

next-answer : (b : Bool) (k n : ℕ) → Ok k ≡ pick b (λ u. Ok n) (λ u. Err AttributesFull) → (b ≡ true) × (k ≡ n)
next-answer true k n e = (refl, cc)
next-answer false k n e = absurd cc

module _ (ns ats : List ℕ) (c : Counts) (p tag : ℕ) (ready : Ready ns ats c p) (room : ℕ) (is : room ≡ attribute_room (table_of ats)) where
  -- Where the element's entries go.
  abbrev pub at : Place
  at = record { parent = p; tag = tag; first = c.attributes; room = room }

  pub at-space : (c.attributes ≤ room) × (5 * room ≤ length ats)
  unfolding attribute_room
  at-space = (omega (arith, is, ready.entries, ready.few.1), omega (arith, is))

  pub at_above : Above ns at
  at_above = record {
    small = omega (arith, ready.below, ready.few.0);
    inside = omega (arith, ready.below, ready.nodes);
    falls = ready.falls;
    range = ready.range;
  }

  module _ (drawing : Drawing) (bs : List ℕ) (ignored : Bool) (e : Opened) where
    abbrev pub t : Tree
    t = tree_of ns ats bs c

    -- The entries of the element, as the code reads them.
    abbrev pub es : List Entry
    es = entries_in drawing ns at ignored ats e.inside

    adds-alike : (xs : List Attribute) (l : List Entry) → folded (add_attribute t p tag ignored) l xs ≡ folded (added_in ns at ignored ats)
        l xs
    adds-alike [] l = refl
    adds-alike (x ∷ xs) l =
        adds-alike xs (add_attribute t p tag ignored l x)
        ∙ ap (λ (k : List Entry). folded (added_in ns at ignored ats) k xs)
        (add_same (read_of ns ats) ats bs c.nodes c.attributes c.text p c.attributes (λ q b. refl) ready.falls ready.range
        tag ignored l x)

    writes-alike : (ds : List Declaration) (l : List Entry) →
        folded (λ es d. write_declaration t p tag d es) l ds ≡ folded (declared_in ns at ats) l ds
    writes-alike [] l = refl
    writes-alike (d ∷ ds) l =
        writes-alike ds (write_declaration t p tag d l)
        ∙ ap (λ (k : List Entry). folded (declared_in ns at ats) k ds)
        (write_same (read_of ns ats) ats bs c.nodes c.attributes c.text p c.attributes (λ q b. refl) ready.falls
        ready.range tag d l)

    pub entries-alike : entries_of t p tag ignored (element_of drawing e) ≡ es
    unfolding entries_of
    entries-alike =
        writes-alike (declarations_in drawing e.inside)
        (folded (add_attribute t p tag ignored) [] (attributes_in drawing e.inside))
        ∙ ap (λ (l : List Entry). folded (declared_in ns at ats) l (declarations_in drawing e.inside))
        (adds-alike (attributes_in drawing e.inside) [])

    -- What the element comes to, from its entries.
    abbrev pub comes : Bool → Bool → Bool → Out Tree
    comes fits few free =
        pick fits (λ u. pick few (λ v. pick free (λ w. done (add_element tag es p t)) (λ w. refused 22)) (λ v. refused 20))
        (λ u. refused 23)

    whole : parse_svg_element (element_of drawing e) tag ignored p t
        ≡ comes (leb (c.attributes + length es) room) (leb c.nodes most_nodes) (ltb c.nodes (node_room (nodes_read ns)))
    unfolding parse_svg_element attribute_room node_room
    whole = rw (entries-alike, is) refl

    module _ (r : Result Run Refusal) (m : List ℕ) (step : Leaves ats at es (stored_of r) m) where
      pub no_room : (d : Refusal) → r ≡ Err d →
          (d ≡ AttributesFull) × (refused 23 ≡ parse_svg_element (element_of drawing e) tag ignored p t)
      no_room d q =
          let h = full-answer (leb (c.attributes + length es) room) (c.attributes + length es) d (sym (ap stored_of q) ∙ step.answer) in
          (h.1, sym (whole ∙ rw h.0 refl))

      pub no_entry : ((x : Run) → r ≡ Ok x → ⊥) → refused 23 ≡ parse_svg_element (element_of drawing e) tag ignored p t
      no_entry unstored = go r refl
        where
          go : (o : Result Run Refusal) → r ≡ o → refused 23 ≡ parse_svg_element (element_of drawing e) tag ignored p t
          go (Ok x) q = absurd (unstored x q)
          go (Err d) q = (no_room d q).1

      module _ (x : Run) (q : r ≡ Ok x) where
        room-told : (leb (c.attributes + length es) room ≡ true) × (x.next ≡ c.attributes + length es)
        room-told = next-answer (leb (c.attributes + length es) room) x.next (c.attributes + length es) (sym (ap stored_of q) ∙ step.answer)

        pub too_many : 1000000 < c.nodes → refused 20 ≡ parse_svg_element (element_of drawing e) tag ignored p t
        too_many h = sym (whole ∙ rw (room-told.0, lt-leb c.nodes most_nodes h) refl)

        pub no_record : c.nodes ≤ 1000000 → node_room (nodes_read ns) ≤ c.nodes →
            refused 22 ≡ parse_svg_element (element_of drawing e) tag ignored p t
        no_record h f = sym (whole ∙ rw (room-told.0, le-leb c.nodes most_nodes h, le-ltb c.nodes (node_room (nodes_read ns)) f) refl)

        pub appended-here : c.nodes ≤ 1000000 → c.nodes < node_room (nodes_read ns) → (l : List ℕ) →
            l ≡ appended ELEMENT tag c.attributes x.next ns p c.nodes →
            done (tree_of l m bs (record { nodes = c.nodes + 1; attributes = x.next; text = c.text }))
            ≡ parse_svg_element (element_of drawing e) tag ignored p t
        unfolding add_element with_run
        appended-here h f l a =
            let fits = leb-true (c.attributes + length es) room room-told.0 in
            let table = step.table fits in
            rw (a, table, room-told.1)
            (sym (whole ∙ rw (room-told.0, le-leb c.nodes most_nodes h, lt-ltb c.nodes (node_room (nodes_read ns)) f) refl))

  -- There is a record for the node.
  pub record-there : c.nodes < node_room (nodes_read ns) →
      (8 * c.nodes + 7 < length ns) × (p < c.nodes) × (c.nodes < 4294967295) × (word ns p 4 ≤ c.nodes)
  unfolding node_room
  record-there f = (omega arith, ready.below, omega arith, ready.last)
