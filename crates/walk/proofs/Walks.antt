-- The nodes, attributes and declarations at a cursor, by the step there. Assumes nothing.
use mathlib.Core.Path.{◌≡◌, refl, sym, ap, ◌∙◌, subst}
use mathlib.Core.List.{List, [], ◌∷◌}
use mathlib.Core.Logic.{◌⊎◌, inl, inr}
use Prim.Native.Nat.{ℕ, ◌+◌, ◌^◌, ◌<◌, ◌≤◌}
use Rattle.std.specs.Prelude.{Option, Some, None, Result, Ok, Err}
use native.Mathlib.Omega.{arith}
use Rattle.model.specs.Drawing as model
use Rattle.model.specs.Drawing.{Command, opening, attribute, declaration, reading, closing, Mark, past, Event, begin, close, events_from}
use Rattle.model.specs.Drawing.{source_at, value_at}
use Rattle.model.specs.Drawing.{attributes_at, declarations_at, readings_at, part_at, element_at}
use Rattle.script.specs.declared.drawing.Drawing.{Drawing}
use Rattle.script.specs.declared.cursor.Cursor.{Cursor}
use Rattle.script.specs.declared.cursor.Step.{Step}
use Rattle.script.specs.declared.cursor.Step.TheVariants as step
use Rattle.script.specs.Step.{Fit, Here, commands_at, mark_of, most_place, step_at, Going}
use Rattle.script.proofs.Commands.{Told, told, goes}
use Rattle.walk.specs.declared.node.Item.{Item}
use Rattle.walk.specs.declared.node.Item.TheVariants as item
use Rattle.walk.specs.declared.value.Named.{Named}
use Rattle.walk.specs.declared.value.ReadingAt.{ReadingAt}
use Rattle.walk.specs.Values.{attributes_in, declarations_in, readings_in, events_at, SameRest, attributes_of, AttributeFit}
use Rattle.walk.specs.Values.{declarations_of}
use Rattle.walk.specs.Values.{DeclarationFit, readings_of, ReadingFit}
use Rattle.walk.specs.Nodes.{events_of, Further, ItemFit}

-- What g says of the commands from c on, it says of those from n on, if a command x between them changes nothing.
module _ {A : Type 0} (g : Mark → List Command → A) where
  pub stepped : {drawing : Drawing} {c : Cursor} {x : Command} {n : Cursor} → Here drawing c x n → (f : Mark → A)
      → g (mark_of c) (x ∷ commands_at drawing n) ≡ f (past (mark_of c) x) → f (mark_of n) ≡ g (mark_of c) (commands_at drawing c)
  stepped {drawing} {c} {x} {n} h f e = ap (λ (k : Cursor). f (mark_of k)) h.next ∙ sym e ∙ ap (g (mark_of c)) (sym h.more)

  pub ended : (drawing : Drawing) (c : Cursor) (cs : List Command) → commands_at drawing c ≡ cs → g (mark_of c) cs ≡ g (mark_of c) (commands_at drawing c)
  ended drawing c cs h = ap (g (mark_of c)) (sym h)

-- Between a cursor and one behind it nothing of what g says has been passed.
pub record Reach {A : Type 0} (g : Mark → List Command → A) (drawing : Drawing) (from c : Cursor) : Type 0 where
  pub fit : Fit drawing c
  pub later : from.at ≤ c.at
  pub same : g (mark_of c) (commands_at drawing c) ≡ g (mark_of from) (commands_at drawing from)

pub reach-none : {A : Type 0} (g : Mark → List Command → A) (drawing : Drawing) (c : Cursor) → Fit drawing c → Reach g drawing c c
reach-none g drawing c f = record { fit = f; later = omega arith; same = refl }

-- One cursor nearer.
pub record Nearer {A : Type 0} (g : Mark → List Command → A) (drawing : Drawing) (from c n : Cursor) : Type 0 where
  pub reach : Reach g drawing from n
  pub less : c.at < n.at

-- A command that changes nothing of what g says.
nearer : {A : Type 0} (g : Mark → List Command → A) (drawing : Drawing) (from c : Cursor) (x : Command) (n : Cursor) → Here drawing c x n → Fit drawing n
    → Reach g drawing from c
    → g (mark_of c) (x ∷ commands_at drawing n) ≡ g (past (mark_of c) x) (commands_at drawing n) → Nearer g drawing from c n
nearer g drawing from c x n h f r e = record {
  reach = record { fit = f; later = omega (arith, r.later, h.further); same = stepped g h (λ m. g m (commands_at drawing n)) e ∙ r.same };
  less = h.further;
}

-- THE NEXT NODE

-- What next_item ensures.
abbrev pub ItemIs : Drawing → Cursor → Item → Type 0
ItemIs drawing from r = (events_of drawing r ≡ events_at drawing from) × ItemFit drawing from r

pub item-told : (drawing : Drawing) (c : Cursor) (r x : Item) → r ≡ x → ItemIs drawing c r → ItemIs drawing c x
item-told drawing c r x e h = subst (ItemIs drawing c) e h

abbrev pub ItemAt : Drawing → Cursor → Cursor → Step → Type 0
ItemAt drawing from c (step.Open a b n) = ItemIs drawing from (item.Begin (record { own = c; name = a; space = b; inside = n }))
ItemAt drawing from c (step.Text l n) = ItemIs drawing from (item.Text c l n)
ItemAt drawing from c (step.Other n) = ItemIs drawing from (item.Other n)
ItemAt drawing from c (step.Close n) = ItemIs drawing from (item.Close n)
ItemAt drawing from c (step.Attribute a b l n) = Nearer (events_from drawing.characters.now) drawing from c n
ItemAt drawing from c (step.Declaration a b l n) = Nearer (events_from drawing.characters.now) drawing from c n
ItemAt drawing from c (step.Reading k o l n) = Nearer (events_from drawing.characters.now) drawing from c n
ItemAt drawing from c (step.Broken b) = ItemIs drawing from item.End
ItemAt drawing from c step.End = ItemIs drawing from item.End

module _ (drawing : Drawing) (from c : Cursor) where
  further : (n : Cursor) → Reach (events_from drawing.characters.now) drawing from c → Fit drawing n → c.at < n.at → Further drawing from n
  further n r f l = record { fit = f; further = omega (arith, r.later, l) }

  item_of : (x : Step) → Told drawing c x → Going drawing x → Reach (events_from drawing.characters.now) drawing from c → ItemAt drawing from c x
  unfolding events_from element_at
  item_of (step.Open a b n) h g r = (
    stepped (events_from drawing.characters.now) h
        (λ m. begin (record {
          number = c.number + 1;
          code = a;
          namespace = b;
          attributes = attributes_at drawing.characters.now m (commands_at drawing n);
          declarations = declarations_at drawing.characters.now m (commands_at drawing n);
        }) ∷ events_from drawing.characters.now m (commands_at drawing n)) refl ∙ r.same,
    (record { own = r.fit; fit = g; here = h }, further n r g h.further),
  )
  item_of (step.Text l n) h g r = (
    stepped (events_from drawing.characters.now) h (λ m. model.Event.text (source_at drawing.characters.now (mark_of c) l) ∷ events_from drawing.characters.now m (commands_at drawing n)) refl
        ∙ r.same,
    (r.fit, further n r g h.further),
  )
  item_of (step.Other n) h g r = (
    stepped (events_from drawing.characters.now) h (λ m. model.Event.other ∷ events_from drawing.characters.now m (commands_at drawing n)) refl ∙ r.same,
    further n r g h.further,
  )
  item_of (step.Close n) h g r = (
    stepped (events_from drawing.characters.now) h (λ m. close ∷ events_from drawing.characters.now m (commands_at drawing n)) refl ∙ r.same,
    further n r g h.further,
  )
  item_of (step.Attribute a b l n) h g r = nearer (events_from drawing.characters.now) drawing from c (attribute a b l) n h g r refl
  item_of (step.Declaration a b l n) h g r = nearer (events_from drawing.characters.now) drawing from c (declaration a b l) n h g r refl
  item_of (step.Reading k o l n) h g r = nearer (events_from drawing.characters.now) drawing from c (reading k o l) n h g r refl
  item_of (step.Broken b) h g r = (ended (events_from drawing.characters.now) drawing c (model.Command.broken b ∷ []) h ∙ r.same, tt)
  item_of step.End h g r = (ended (events_from drawing.characters.now) drawing c [] h ∙ r.same, tt)

  pub item-at : (a b : Step) → a ≡ b → (a ≡ step_at drawing c) × (Going drawing a) → Reach (events_from drawing.characters.now) drawing from c → ItemAt drawing from c b
  item-at a b e h r = item_of b (told drawing c a b e h.0) (goes drawing a b e h.1) r

  -- At a command that is none, or at the end, there is no node any more.
  pub item-end : (a : Step) → (((x : ℕ) × a ≡ step.Broken x) ⊎ (a ≡ step.End)) → (a ≡ step_at drawing c) × (Going drawing a)
      → Reach (events_from drawing.characters.now) drawing from c → ItemIs drawing from item.End
  item-end a (inl (x, e)) h r = item-at a (step.Broken x) e h r
  item-end a (inr e) h r = item-at a step.End e h r

-- THE NEXT ATTRIBUTE

-- An attribute or a declaration by the operands of its command, which stands between the cursors c and n.
abbrev pub named_of : ℕ → ℕ → Cursor → ℕ → Cursor → Named
named_of a b c l n = record { name = a; qualifier = b; value = record { own = c; len = l; behind = n } }

-- The attributes, declarations and nodes from a place on.
pub record Rest : Type 0 where
  pub attributes : List model.Attribute
  pub declarations : List model.Declaration
  pub events : List Event

unfoldable pub rest_from : List ℕ → Mark → List Command → Rest
rest_from chars m cs =
    record { attributes = attributes_at chars m cs; declarations = declarations_at chars m cs; events = events_from chars m cs }

pub same_rest : (drawing : Drawing) (from c : Cursor) → Reach (rest_from drawing.characters.now) drawing from c → SameRest drawing from c
unfolding rest_from
same_rest drawing from c r = record {
  nodes = record { fit = r.fit; later = r.later; events = ap (λ (x : Rest). x.events) r.same };
  declarations = ap (λ (x : Rest). x.declarations) r.same;
}

-- What next_attribute ensures.
abbrev pub AttributeIs : Drawing → Cursor → Result Named Cursor → Type 0
AttributeIs drawing from r = (attributes_of drawing r ≡ attributes_in drawing from) × AttributeFit drawing from r

pub attribute-told : (drawing : Drawing) (c : Cursor) (r x : Result Named Cursor) → r ≡ x → AttributeIs drawing c r → AttributeIs drawing c x
attribute-told drawing c r x e h = subst (AttributeIs drawing c) e h

abbrev pub AttributeAt : Drawing → Cursor → Cursor → Step → Type 0
AttributeAt drawing from c (step.Open a b n) = AttributeIs drawing from (Err c)
AttributeAt drawing from c (step.Text l n) = AttributeIs drawing from (Err c)
AttributeAt drawing from c (step.Other n) = AttributeIs drawing from (Err c)
AttributeAt drawing from c (step.Close n) = AttributeIs drawing from (Err c)
AttributeAt drawing from c (step.Attribute a b l n) = AttributeIs drawing from (Ok (named_of a b c l n))
AttributeAt drawing from c (step.Declaration a b l n) = AttributeIs drawing from (Err c)
AttributeAt drawing from c (step.Reading k o l n) = Nearer (rest_from drawing.characters.now) drawing from c n
AttributeAt drawing from c (step.Broken b) = AttributeIs drawing from (Err c)
AttributeAt drawing from c step.End = AttributeIs drawing from (Err c)

module _ (drawing : Drawing) (from c : Cursor) (r : Reach (rest_from drawing.characters.now) drawing from c) where
  no-attribute : (cs : List Command) → commands_at drawing c ≡ cs → [] ≡ attributes_at drawing.characters.now (mark_of c) cs
      → AttributeIs drawing from (Err c)
  unfolding rest_from
  no-attribute cs h e = (
    none ∙ ap (λ (x : Rest). x.attributes) r.same,
    record { rest = same_rest drawing from c r; none_left = sym none },
  )
    where
      none : [] ≡ attributes_in drawing c
      none = e ∙ ended (attributes_at drawing.characters.now) drawing c cs h

  attribute-of : (x : Step) → Told drawing c x → Going drawing x → AttributeAt drawing from c x
  unfolding rest_from attributes_at declarations_at events_from
  attribute-of (step.Open a b n) h g = no-attribute _ h.more refl
  attribute-of (step.Text l n) h g = no-attribute _ h.more refl
  attribute-of (step.Other n) h g = no-attribute _ h.more refl
  attribute-of (step.Close n) h g = no-attribute _ h.more refl
  attribute-of (step.Attribute a b l n) h g = (
    stepped (attributes_at drawing.characters.now) h
        (λ m. record { name = a; namespace = b; value = value_at drawing.characters.now (mark_of c) l (commands_at drawing n) } ∷ attributes_at drawing.characters.now m
        (commands_at drawing n)) refl
        ∙ ap (λ (x : Rest). x.attributes) r.same,
    record {
      own = r.fit;
      rest = record {
        nodes = record {
          fit = g;
          later = omega (arith, r.later, h.further);
          events = stepped (events_from drawing.characters.now) h (λ m. events_from drawing.characters.now m (commands_at drawing n)) refl ∙ ap (λ (x : Rest). x.events) r.same;
        };
        declarations = stepped (declarations_at drawing.characters.now) h (λ m. declarations_at drawing.characters.now m (commands_at drawing n)) refl
            ∙ ap (λ (x : Rest). x.declarations) r.same;
      };
      further = omega (arith, r.later, h.further);
    },
  )
  attribute-of (step.Declaration a b l n) h g = no-attribute _ h.more refl
  attribute-of (step.Reading k o l n) h g = nearer (rest_from drawing.characters.now) drawing from c (reading k o l) n h g r refl
  attribute-of (step.Broken b) h g = no-attribute _ h refl
  attribute-of step.End h g = no-attribute _ h refl

  -- No attribute is left where neither one nor a reading stands.
  attributes-end : (x : Step) → Told drawing c x → Going drawing x → ((a b l : ℕ) (n : Cursor) → x ≡ step.Attribute a b l n → ⊥)
      → ((k o l : ℕ) (n : Cursor) → x ≡ step.Reading k o l n → ⊥) → AttributeIs drawing from (Err c)
  attributes-end (step.Attribute a b l n) h g p q = absurd (p a b l n refl)
  attributes-end (step.Reading k o l n) h g p q = absurd (q k o l n refl)
  attributes-end (step.Open a b n) h g p q = attribute-of (step.Open a b n) h g
  attributes-end (step.Declaration a b l n) h g p q = attribute-of (step.Declaration a b l n) h g
  attributes-end (step.Text l n) h g p q = attribute-of (step.Text l n) h g
  attributes-end (step.Other n) h g p q = attribute-of (step.Other n) h g
  attributes-end (step.Close n) h g p q = attribute-of (step.Close n) h g
  attributes-end (step.Broken b) h g p q = attribute-of (step.Broken b) h g
  attributes-end step.End h g p q = attribute-of step.End h g

pub no-attribute-at : (drawing : Drawing) (from c : Cursor) (a : Step) → ((x y l : ℕ) (n : Cursor) → a ≡ step.Attribute x y l n → ⊥)
    → ((k o l : ℕ) (n : Cursor) → a ≡ step.Reading k o l n → ⊥) → (a ≡ step_at drawing c) × (Going drawing a)
    → Reach (rest_from drawing.characters.now) drawing from c → AttributeIs drawing from (Err c)
no-attribute-at drawing from c a p q h r = attributes-end drawing from c r a (told drawing c a a refl h.0) h.1 p q

pub declared-at : (drawing : Drawing) (from c : Cursor) (a : Step) (x y l : ℕ) (n : Cursor) → a ≡ step.Declaration x y l n
    → (a ≡ step_at drawing c) × (Going drawing a) → Reach (rest_from drawing.characters.now) drawing from c → AttributeIs drawing from (Err c)
declared-at drawing from c a x y l n e = no-attribute-at drawing from c a (λ i j k m f. absurd cc) (λ i j k m f. absurd cc)

pub attribute-at : (drawing : Drawing) (from c : Cursor) (a b : Step) → a ≡ b → (a ≡ step_at drawing c) × (Going drawing a)
    → Reach (rest_from drawing.characters.now) drawing from c → AttributeAt drawing from c b
attribute-at drawing from c a b e h r = attribute-of drawing from c r b (told drawing c a b e h.0) (goes drawing a b e h.1)

-- THE NEXT DECLARATION

-- The declarations and nodes from a place on.
pub record Below : Type 0 where
  pub declarations : List model.Declaration
  pub events : List Event

unfoldable pub below_from : List ℕ → Mark → List Command → Below
below_from chars m cs = record { declarations = declarations_at chars m cs; events = events_from chars m cs }

-- What next_declaration ensures.
abbrev pub DeclarationIs : Drawing → Cursor → Result Named Cursor → Type 0
DeclarationIs drawing from r = (declarations_of drawing r ≡ declarations_in drawing from) × DeclarationFit drawing from r

abbrev pub DeclarationAt : Drawing → Cursor → Cursor → Step → Type 0
DeclarationAt drawing from c (step.Open a b n) = DeclarationIs drawing from (Err c)
DeclarationAt drawing from c (step.Text l n) = DeclarationIs drawing from (Err c)
DeclarationAt drawing from c (step.Other n) = DeclarationIs drawing from (Err c)
DeclarationAt drawing from c (step.Close n) = DeclarationIs drawing from (Err c)
DeclarationAt drawing from c (step.Attribute a b l n) = Nearer (below_from drawing.characters.now) drawing from c n
DeclarationAt drawing from c (step.Declaration a b l n) = DeclarationIs drawing from (Ok (named_of a b c l n))
DeclarationAt drawing from c (step.Reading k o l n) = Nearer (below_from drawing.characters.now) drawing from c n
DeclarationAt drawing from c (step.Broken b) = DeclarationIs drawing from (Err c)
DeclarationAt drawing from c step.End = DeclarationIs drawing from (Err c)

module _ (drawing : Drawing) (from c : Cursor) (r : Reach (below_from drawing.characters.now) drawing from c) where
  no-declaration : (cs : List Command) → commands_at drawing c ≡ cs → [] ≡ declarations_at drawing.characters.now (mark_of c) cs
      → DeclarationIs drawing from (Err c)
  unfolding below_from
  no-declaration cs h e = (
    none ∙ ap (λ (x : Below). x.declarations) r.same,
    record { nodes = record { fit = r.fit; later = r.later; events = ap (λ (x : Below). x.events) r.same }; none_left = sym none },
  )
    where
      none : [] ≡ declarations_in drawing c
      none = e ∙ ended (declarations_at drawing.characters.now) drawing c cs h

  declaration-of : (x : Step) → Told drawing c x → Going drawing x → DeclarationAt drawing from c x
  unfolding below_from declarations_at events_from
  declaration-of (step.Open a b n) h g = no-declaration _ h.more refl
  declaration-of (step.Text l n) h g = no-declaration _ h.more refl
  declaration-of (step.Other n) h g = no-declaration _ h.more refl
  declaration-of (step.Close n) h g = no-declaration _ h.more refl
  declaration-of (step.Attribute a b l n) h g = nearer (below_from drawing.characters.now) drawing from c (attribute a b l) n h g r refl
  declaration-of (step.Declaration a b l n) h g = (
    stepped (declarations_at drawing.characters.now) h
        (λ m. record { name = a; important = b; value = value_at drawing.characters.now (mark_of c) l (commands_at drawing n) } ∷ declarations_at drawing.characters.now m
        (commands_at drawing n)) refl
        ∙ ap (λ (x : Below). x.declarations) r.same,
    record {
      own = r.fit;
      nodes = record {
        fit = g;
        later = omega (arith, r.later, h.further);
        events = stepped (events_from drawing.characters.now) h (λ m. events_from drawing.characters.now m (commands_at drawing n)) refl ∙ ap (λ (x : Below). x.events) r.same;
      };
      further = omega (arith, r.later, h.further);
    },
  )
  declaration-of (step.Reading k o l n) h g = nearer (below_from drawing.characters.now) drawing from c (reading k o l) n h g r refl
  declaration-of (step.Broken b) h g = no-declaration _ h refl
  declaration-of step.End h g = no-declaration _ h refl

  -- No declaration is left where neither one nor an attribute nor a reading stands.
  declarations-end : (x : Step) → Told drawing c x → Going drawing x → ((a b l : ℕ) (n : Cursor) → x ≡ step.Declaration a b l n → ⊥)
      → ((a b l : ℕ) (n : Cursor) → x ≡ step.Attribute a b l n → ⊥) → ((k o l : ℕ) (n : Cursor) → x ≡ step.Reading k o l n → ⊥)
      → DeclarationIs drawing from (Err c)
  declarations-end (step.Declaration a b l n) h g p q t = absurd (p a b l n refl)
  declarations-end (step.Attribute a b l n) h g p q t = absurd (q a b l n refl)
  declarations-end (step.Reading k o l n) h g p q t = absurd (t k o l n refl)
  declarations-end (step.Open a b n) h g p q t = declaration-of (step.Open a b n) h g
  declarations-end (step.Text l n) h g p q t = declaration-of (step.Text l n) h g
  declarations-end (step.Other n) h g p q t = declaration-of (step.Other n) h g
  declarations-end (step.Close n) h g p q t = declaration-of (step.Close n) h g
  declarations-end (step.Broken b) h g p q t = declaration-of (step.Broken b) h g
  declarations-end step.End h g p q t = declaration-of step.End h g

pub no-declaration-at : (drawing : Drawing) (from c : Cursor) (a : Step) → ((x y l : ℕ) (n : Cursor) → a ≡ step.Declaration x y l n → ⊥)
    → ((x y l : ℕ) (n : Cursor) → a ≡ step.Attribute x y l n → ⊥) → ((k o l : ℕ) (n : Cursor) → a ≡ step.Reading k o l n → ⊥)
    → (a ≡ step_at drawing c) × (Going drawing a) → Reach (below_from drawing.characters.now) drawing from c → DeclarationIs drawing from (Err c)
no-declaration-at drawing from c a p q t h r = declarations-end drawing from c r a (told drawing c a a refl h.0) h.1 p q t

pub declaration-at : (drawing : Drawing) (from c : Cursor) (a b : Step) → a ≡ b → (a ≡ step_at drawing c) × (Going drawing a)
    → Reach (below_from drawing.characters.now) drawing from c → DeclarationAt drawing from c b
declaration-at drawing from c a b e h r = declaration-of drawing from c r b (told drawing c a b e h.0) (goes drawing a b e h.1)

-- THE NEXT READING

-- What next_reading ensures.
abbrev pub ReadingIs : Drawing → Cursor → ℕ → Option ReadingAt → Type 0
ReadingIs drawing c a r = (readings_of drawing a r ≡ readings_in drawing a c) × ReadingFit drawing c r

pub reading-told : (drawing : Drawing) (c : Cursor) (a : ℕ) (r x : Option ReadingAt) → r ≡ x → ReadingIs drawing c a r → ReadingIs drawing c a x
reading-told drawing c a r x e h = subst (ReadingIs drawing c a) e h

abbrev pub ReadAt : Drawing → Cursor → ℕ → Step → Type 0
ReadAt drawing c a (step.Reading k o l n) = ReadingIs drawing c a (Some (record { kind = k; part = record { start = a + o; len = l }; behind = n }))
ReadAt drawing c a (step.Open x y n) = ReadingIs drawing c a None
ReadAt drawing c a (step.Attribute x y l n) = ReadingIs drawing c a None
ReadAt drawing c a (step.Declaration x y l n) = ReadingIs drawing c a None
ReadAt drawing c a (step.Text l n) = ReadingIs drawing c a None
ReadAt drawing c a (step.Other n) = ReadingIs drawing c a None
ReadAt drawing c a (step.Close n) = ReadingIs drawing c a None
ReadAt drawing c a (step.Broken b) = ReadingIs drawing c a None
ReadAt drawing c a step.End = ReadingIs drawing c a None

-- The offset of a reading is small.
abbrev pub Offset : Step → Type 0
Offset (step.Reading k o l n) = o < 2 ^ 32
Offset (step.Open x y n) = Unit {0}
Offset (step.Attribute x y l n) = Unit {0}
Offset (step.Declaration x y l n) = Unit {0}
Offset (step.Text l n) = Unit {0}
Offset (step.Other n) = Unit {0}
Offset (step.Close n) = Unit {0}
Offset (step.Broken b) = Unit {0}
Offset step.End = Unit {0}

module _ (drawing : Drawing) (c : Cursor) (a : ℕ) where
  no-reading : (cs : List Command) → commands_at drawing c ≡ cs → [] ≡ readings_at drawing.characters.now a cs → ReadingIs drawing c a None
  no-reading cs h e = (e ∙ ap (readings_at drawing.characters.now a) (sym h), tt)

  read_of : (x : Step) → Told drawing c x → Going drawing x → Fit drawing c → a ≤ most_place → Offset x → ReadAt drawing c a x
  unfolding rest_from readings_at attributes_at declarations_at events_from
  read_of (step.Reading k o l n) h g f b d =
      let w : Nearer (rest_from drawing.characters.now) drawing c c n = nearer (rest_from drawing.characters.now) drawing c c (reading k o l) n h g
      (reach-none (rest_from drawing.characters.now) drawing c f) refl in (
        ap (readings_at drawing.characters.now a) (sym h.more),
        record {
          rest = same_rest drawing c n w.reach;
          attributes = ap (λ (x : Rest). x.attributes) w.reach.same;
          further = h.further;
          small = omega (arith, b, d);
        },
      )
  read_of (step.Open x y n) h g f b d = no-reading _ h.more refl
  read_of (step.Attribute x y l n) h g f b d = no-reading _ h.more refl
  read_of (step.Declaration x y l n) h g f b d = no-reading _ h.more refl
  read_of (step.Text l n) h g f b d = no-reading _ h.more refl
  read_of (step.Other n) h g f b d = no-reading _ h.more refl
  read_of (step.Close n) h g f b d = no-reading _ h.more refl
  read_of (step.Broken x) h g f b d = no-reading _ h refl
  read_of step.End h g f b d = no-reading _ h refl

  pub read_at : (p x : Step) → p ≡ x → (p ≡ step_at drawing c) × (Going drawing p) → Fit drawing c → a ≤ most_place → Offset x → ReadAt drawing c a x
  read_at p x e h f b d = read_of x (told drawing c p x e h.0) (goes drawing p x e h.1) f b d

  -- No reading is left where none stands.
  readings-end : (x : Step) → Told drawing c x → Going drawing x → Fit drawing c → a ≤ most_place → ((k o l : ℕ) (n : Cursor) → x ≡ step.Reading k o l n → ⊥)
      → ReadingIs drawing c a None
  readings-end (step.Reading k o l n) h g f b p = absurd (p k o l n refl)
  readings-end (step.Open x y n) h g f b p = read_of (step.Open x y n) h g f b tt
  readings-end (step.Attribute x y l n) h g f b p = read_of (step.Attribute x y l n) h g f b tt
  readings-end (step.Declaration x y l n) h g f b p = read_of (step.Declaration x y l n) h g f b tt
  readings-end (step.Text l n) h g f b p = read_of (step.Text l n) h g f b tt
  readings-end (step.Other n) h g f b p = read_of (step.Other n) h g f b tt
  readings-end (step.Close n) h g f b p = read_of (step.Close n) h g f b tt
  readings-end (step.Broken x) h g f b p = read_of (step.Broken x) h g f b tt
  readings-end step.End h g f b p = read_of step.End h g f b tt

  pub no-reading-at : (p : Step) → ((k o l : ℕ) (n : Cursor) → p ≡ step.Reading k o l n → ⊥) → (p ≡ step_at drawing c) × (Going drawing p) → Fit drawing c
      → a ≤ most_place → ReadingIs drawing c a None
  no-reading-at p q h f b = readings-end p (told drawing c p p refl h.0) h.1 f b q
