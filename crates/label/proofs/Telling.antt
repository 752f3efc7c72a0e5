-- What the answers of an element and of an append are told to be. Assumes nothing.
use Prim.Native.Nat.{ℕ}
use mathlib.Core.Path.{◌≡◌, sym, subst}
use mathlib.Core.List.{List, ◌∷◌}
use Rattle.model.specs.Drawing.{begin}
use Rattle.model.specs.Tables.{Tree, Out, refused, done}
use Rattle.script.specs.declared.drawing.Drawing.{Drawing}
use Rattle.script.specs.declared.cursor.Cursor.{Cursor}
use Rattle.walk.specs.declared.node.Opened.{Opened}
use Rattle.walk.specs.Nodes.{element_of, Standing, Further}
use Rattle.walk.specs.Values.{events_at, SameNodes}
use Rattle.tree.specs.declared.Counts.{Counts}
use Rattle.refusal.specs.declared.Refusal.{Refusal}
use Rattle.refusal.specs.Number.{number_of}
use Rattle.tree.specs.Lent.{tree_of, out_of}
use Rattle.element.specs.declared.Parsed.{Parsed}
use Rattle.std.specs.Prelude.{Result, Ok, Err}
use Rattle.element.specs.Runs.{parsed_of, ParsedFit}
use Rattle.label.specs.declared.State.{State}
use Rattle.label.specs.Walk.{Lies, Opening}

module _ (r : Result Parsed Refusal) (ns ats bs : List ℕ) (o : Out Tree) (h : parsed_of ns ats bs r ≡ o) where
  pub element-done : (x : Parsed) → r ≡ Ok x → done (tree_of ns ats bs x.counts) ≡ o
  element-done x e = subst (λ (y : Result Parsed Refusal). parsed_of ns ats bs y ≡ o) e h

  pub element-none : (j : Refusal) → r ≡ Err j → refused (number_of j) ≡ o
  element-none j e = subst (λ (y : Result Parsed Refusal). parsed_of ns ats bs y ≡ o) e h

pub element-behind : (r : Result Parsed Refusal) (drawing : Drawing) (from : Cursor) → ParsedFit drawing from r →
    (x : Parsed) → r ≡ Ok x → SameNodes drawing from x.behind
element-behind r drawing from h x e = subst (ParsedFit drawing from) e h

module _ (r : Result Counts Refusal) (ns ats bs : List ℕ) (o : Out Tree) (h : out_of ns ats bs r ≡ o) where
  pub append-done : (k : Counts) → r ≡ Ok k → done (tree_of ns ats bs k) ≡ o
  append-done k e = subst (λ (y : Result Counts Refusal). out_of ns ats bs y ≡ o) e h

  pub append-none : (j : Refusal) → r ≡ Err j → refused (number_of j) ≡ o
  append-none j e = subst (λ (y : Result Counts Refusal). out_of ns ats bs y ≡ o) e h

-- An element opens.
pub opening : (drawing : Drawing) (s : State) (x : Opened) →
    begin (element_of drawing x) ∷ events_at drawing x.inside ≡ events_at drawing s.c → Standing drawing x →
    Further drawing s.c x.inside → Lies drawing.characters.now (events_at drawing s.c) → Opening drawing s x
opening drawing s x q f g l =
    let h : Lies drawing.characters.now (begin (element_of drawing x) ∷ events_at drawing x.inside) = subst (Lies drawing.characters.now) (sym q) l in
    record { standing = f; further = g; events = q; element = h.0; lies = h.1 }
