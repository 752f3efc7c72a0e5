-- The turns of the walk inside a text element. Assumes nothing.
use Prim.Native.Nat.{ℕ, zero, suc, ◌+◌, ◌-◌, ◌≤◌, ◌<◌}
use mathlib.Core.Path.{◌≡◌, refl, sym, ap, ◌∙◌, subst}
use mathlib.Core.Bool.{true, false}
use mathlib.Core.List.{List, [], ◌∷◌}
use native.Mathlib.Omega.{arith}
use borrow.Author.Tests.{eq-eqb, ne_eqb}
use lib.Dec.{eqb}
use lib.ListN.{length}
use Rattle.model.specs.Base.{pick}
use Rattle.model.specs.EId
use Rattle.model.specs.Names.{is_element}
use Rattle.model.specs.Drawing as model
use Rattle.model.specs.Drawing.{Element, Event, Source, begin, close, quoted}
use Rattle.model.specs.Tables.{Tree, Out, refused, done, then, word}
use Rattle.model.specs.Element.{parse_svg_element}
use Rattle.model.specs.Text.{append_text, get_xmlspace, space_of}
use Rattle.model.specs.Parse.{Ops, inside, plain, is_text_content, text_tag_of}
use Rattle.model.specs.Theorems.Inside.{LiesText}
use Rattle.script.specs.declared.drawing.Drawing.{Drawing}
use Rattle.script.specs.declared.cursor.Cursor.{Cursor}
use Rattle.script.specs.Step.{Fit, document}
use Rattle.walk.specs.declared.node.Opened.{Opened}
use Rattle.walk.specs.Nodes.{element_of, leave, Further}
use Rattle.walk.specs.Values.{events_at, SameNodes}
use Rattle.tree.specs.declared.Counts.{Counts}
use Rattle.tree.specs.Lent.{tree_of, read_of}
use Rattle.text.specs.declared.XmlSpace.{XmlSpace}
use Rattle.text.specs.Spaces.{space_in}
use Rattle.text.proofs.Seen.{space-same}
use Rattle.element.specs.Runs.{Ready}
use Rattle.element.proofs.Keeping.{kept-ready}
use Rattle.label.specs.declared.State.{State}
use Rattle.element.specs.declared.Parsed.{Parsed}
use Rattle.refusal.specs.declared.Refusal.{Refusal}
use Rattle.refusal.specs.Number.{number_of}
use Rattle.std.specs.declared.ops.ControlFlow.{ControlFlow}
use Rattle.std.specs.Prelude.{Some, Result, Ok, Err}
use Rattle.pieces.specs.declared.Levels.{Levels}
use Rattle.pieces.specs.Levels.{Pushed, AboveFit, space_above, Recalled}
use Rattle.label.specs.Walk.{Holding, quote_of, Lies, Within, Up, Way, inside_of, Opening, whole, Goes, Ends, FlowFit, TurnFit}
use Rattle.pieces.proofs.Contents.{tag-element}
use Rattle.label.proofs.Handing.{space_from, space-from, space-step, old-space}
use Rattle.label.proofs.Remembering.{recalled-on, recalled-in}
use Rattle.label.proofs.Growing.{Onward, Under, onward-none, onward_then, element-under, text-onward, quote-onward}

-- NODES THAT ARE PASSED OVER

-- Behind an element lies what lies behind its beginning.
pub lies-leave : (chars : List ℕ) (k : ℕ) (xs : List Event) → Lies chars xs → Lies chars (leave k xs)
unfolding leave
lies-leave chars k [] h = tt
lies-leave chars k (begin e ∷ xs) h = lies-leave chars (suc k) xs h.1
lies-leave chars k (model.Event.text a ∷ xs) h = lies-leave chars k xs h.1
lies-leave chars k (model.Event.other ∷ xs) h = lies-leave chars k xs h
lies-leave chars zero (close ∷ xs) h = h
lies-leave chars (suc k) (close ∷ xs) h = lies-leave chars k xs h

-- An element that is passed over: the walk goes on behind it.
inside_past : {S : Type 0} (o : Ops S) (all : List Event) (e k : ℕ) (xs : List Event) (p : ℕ) (s : S) →
    inside o all e xs (suc k) p s ≡ inside o all e (leave k xs) 0 p s
unfolding leave
inside_past o all e k [] p s = refl
inside_past o all e k (begin x ∷ xs) p s = inside_past o all e (suc k) xs p s
inside_past o all e k (model.Event.text a ∷ xs) p s = inside_past o all e k xs p s
inside_past o all e k (model.Event.other ∷ xs) p s = inside_past o all e k xs p s
inside_past o all e zero (close ∷ xs) p s = refl
inside_past o all e (suc k) (close ∷ xs) p s = inside_past o all e k xs p s

abbrev more : ℕ → ℕ → ℕ
more zero d = suc d
more (suc k) d = suc (more k d)

leave-more : (d k : ℕ) (xs : List Event) → leave (more k d) xs ≡ leave d (leave k xs)
unfolding leave
leave-more d k [] = refl
leave-more d k (begin x ∷ xs) = leave-more d (suc k) xs
leave-more d k (model.Event.text a ∷ xs) = leave-more d k xs
leave-more d k (model.Event.other ∷ xs) = leave-more d k xs
leave-more d zero (close ∷ xs) = refl
leave-more d (suc k) (close ∷ xs) = leave-more d k xs

-- What stands behind d elements more.
pub leave-past : (d : ℕ) (xs : List Event) → leave (suc d) xs ≡ leave d (leave 0 xs)
leave-past d xs = leave-more d 0 xs

-- THE WAY UP

up_kept : (ns ns' : List ℕ) (n e : ℕ) → ((i : ℕ) → i < n → word ns' i 1 ≡ word ns i 1) → ((i : ℕ) → i < n → word ns i 1 ≤ i) →
    (d p : ℕ) → p < n → Up ns e d p → Up ns' e d p
up_kept ns ns' n e old falls zero p l h = h
up_kept ns ns' n e old falls (suc d) p l h = (
  h.0,
  subst (λ q. Up ns' e d (q - 1)) (sym (old p l))
      (up_kept ns ns' n e old falls d (word ns p 1 - 1) (omega (arith, falls p l)) h.1),
)

module _ (drawing : Drawing) (e : ℕ) (ns ats bs : List ℕ) (s : State) (w : Within drawing ns ats bs e s) where
  abbrev t : Tree
  t = tree_of ns ats bs s.counts

  abbrev here : List Event
  here = events_at drawing s.c

  falls : (i : ℕ) → i < s.counts.nodes → word ns i 1 ≤ i
  falls i l = (w.sound.tidy.kept.nodes i l).falls

  pub holds : Holding (length drawing.characters.now) t s.p
  holds = record { kept = w.sound.tidy.kept; few = (w.sound.few.0, w.sound.few.2); below = w.below }

  -- The same way up in tables that have grown.
  way_on : (ns' ats' bs' : List ℕ) (k : Counts) → Onward (length drawing.characters.now) e t (tree_of ns' ats' bs' k) → (xs ys rest : List Event) →
      ((d : ℕ) → leave d xs ≡ rest → leave d ys ≡ rest) → Way ns e s.p xs rest → Way ns' e s.p ys rest
  way_on ns' ats' bs' k g xs ys rest f v = record {
    deep = v.deep;
    up = up_kept ns ns' s.counts.nodes e g.old falls v.deep s.p w.below v.up;
    left = f v.deep v.left;
  }

  -- Another place, another node, in tables that have grown.
  elsewhere : (ns' ats' bs' : List ℕ) (k : Counts) → Onward (length drawing.characters.now) e t (tree_of ns' ats' bs' k) → (c : Cursor) (p : ℕ)
      (sp : XmlSpace) → Fit drawing c → Lies drawing.characters.now (events_at drawing c) → e ≤ p → p < k.nodes →
      space_in sp ≡ space_of drawing.characters.now (tree_of ns' ats' bs' k) p →
      Within drawing ns' ats' bs' e (record { c = c; p = p; counts = k; space = sp })
  elsewhere ns' ats' bs' k g c p sp f l u b q =
      record { fit = f; all = w.all; lies = l; small = w.small; sound = g.sound; up = u; below = b; space = q }

  -- The open node hands down the same space in tables that have grown.
  space-on : (ns' ats' bs' : List ℕ) (k : Counts) → Onward (length drawing.characters.now) e t (tree_of ns' ats' bs' k) →
      space_in s.space ≡ space_of drawing.characters.now (tree_of ns' ats' bs' k) s.p
  space-on ns' ats' bs' k g =
      w.space ∙ sym (old-space drawing.characters.now t (tree_of ns' ats' bs' k) s.counts.nodes (g.says drawing.characters.now) g.old falls s.p w.below)

  -- What is remembered above the open node stays right in tables that have grown.
  recalled : (ns' ats' bs' : List ℕ) (k : Counts) → Onward (length drawing.characters.now) e t (tree_of ns' ats' bs' k) → (v : Levels) →
      Recalled drawing.characters.now t s.p v → Recalled drawing.characters.now (tree_of ns' ats' bs' k) s.p v
  recalled ns' ats' bs' k g v h =
      recalled-on drawing.characters.now t (tree_of ns' ats' bs' k) s.counts.nodes (g.says drawing.characters.now) g.old falls s.p w.below v h

  pub space-read : space_in s.space ≡ space_of drawing.characters.now (read_of ns ats) s.p
  space-read = w.space ∙ sym (space-same drawing.characters.now t s.p)

  none : Onward (length drawing.characters.now) e t t
  none = onward-none (length drawing.characters.now) e t w.sound

  -- A COMMENT, A CLOSE, THE END

  module _ (c : Cursor) (f : Further drawing s.c c) where
    abbrev there : List Event
    there = events_at drawing c

    pub goes_other : model.Event.other ∷ there ≡ here →
        Goes drawing e ns ats bs s ns ats bs (record { c = c; p = s.p; counts = s.counts; space = s.space }) × (s.c.at < c.at)
    unfolding leave
    goes_other q = (
      record {
        within = elsewhere ns ats bs s.counts none c s.p s.space f.fit
            (let h : Lies drawing.characters.now (model.Event.other ∷ there) = subst (Lies drawing.characters.now) (sym q) w.lies in h) w.up w.below w.space;
        later = omega (arith, f.further);
        same = ap (λ xs. inside_of drawing e xs s.p t) q;
        way = λ rest v. way_on ns ats bs s.counts none here there rest (λ d l. ap (leave d) q ∙ l) v;
      },
      f.further,
    )

    module _ (q : close ∷ there ≡ here) where
      closed-lies : Lies drawing.characters.now there
      closed-lies = let h : Lies drawing.characters.now (close ∷ there) = subst (Lies drawing.characters.now) (sym q) w.lies in h

      pub ends_close : s.p ≡ e → Ends drawing e ns ats bs s ns ats bs s.counts c
      unfolding leave
      ends_close h = record {
        fit = f.fit;
        sound = w.sound;
        below = omega (arith, w.below);
        later = omega (arith, f.further);
        same = (let z : done t ≡ inside_of drawing e (close ∷ there) s.p t = rw (eq-eqb s.p e h) refl in z)
            ∙ ap (λ xs. inside_of drawing e xs s.p t) q;
        behind = λ rest v. out rest v.deep v.up (ap (leave v.deep) q ∙ v.left);
      }
        where
          out : (rest : List Event) (d : ℕ) → Up ns e d s.p → leave d (close ∷ there) ≡ rest → there ≡ rest
          out rest zero u l = l
          out rest (suc d) u l = absurd (omega (arith, u.0))

      pub goes-up : (s.p ≡ e → ⊥) → (m : ℕ) → m ≡ word ns s.p 1 → (sp : XmlSpace) →
          space_in sp ≡ space_of drawing.characters.now (read_of ns ats) (m - 1) →
          Goes drawing e ns ats bs s ns ats bs (record { c = c; p = m - 1; counts = s.counts; space = sp }) × (s.c.at < c.at)
      unfolding leave
      goes-up h m z sp y =
          let less : e < s.p = omega (arith, w.up, h) in
          let v : space_in sp ≡ space_of drawing.characters.now t (word ns s.p 1 - 1) =
          y ∙ space-same drawing.characters.now t (m - 1) ∙ ap (λ k. space_of drawing.characters.now t (k - 1)) z in
          rw z (
            record {
              within = elsewhere ns ats bs s.counts none c (word ns s.p 1 - 1) sp f.fit closed-lies
                  (omega (arith, w.sound.under s.p less w.below)) (omega (arith, falls s.p w.below, w.below)) v;
              later = omega (arith, f.further);
              same = (let y : inside_of drawing e there (word ns s.p 1 - 1) t ≡ inside_of drawing e (close ∷ there) s.p t =
                  rw (ne_eqb s.p e h) refl in y) ∙ ap (λ xs. inside_of drawing e xs s.p t) q;
              way = λ rest v. out rest v.deep v.up (ap (leave v.deep) q ∙ v.left);
            },
            f.further,
          )
        where
          out : (rest : List Event) (d : ℕ) → Up ns e d s.p → leave d (close ∷ there) ≡ rest →
              Way ns e (word ns s.p 1 - 1) there rest
          out rest zero u l = absurd (h u)
          out rest (suc d) u l = record { deep = d; up = u.1; left = l }

      -- The space of the parent is remembered.
      pub goes-known : (s.p ≡ e → ⊥) → (m : ℕ) → m ≡ word ns s.p 1 → (v : Levels) → Recalled drawing.characters.now t s.p v →
          (sp : XmlSpace) (r : Levels) → AboveFit v (Some sp) r →
          Goes drawing e ns ats bs s ns ats bs (record { c = c; p = m - 1; counts = s.counts; space = sp }) × (s.c.at < c.at)
          × Recalled drawing.characters.now t (m - 1) r
      goes-known h m z v told sp r fit =
          let k = fit (space_above drawing.characters.now t s.p) told in
          let g = goes-up h m z sp (k.0 ∙ ap (λ j. space_of drawing.characters.now t (j - 1)) (sym z) ∙ sym (space-same drawing.characters.now t (m - 1))) in
          (g.0, g.1, subst (λ j. Recalled drawing.characters.now t (j - 1) r) (sym z) k.1)

    -- A TEXT

    module _ (a : Source) (q : model.Event.text a ∷ there ≡ here) where
      spoken-lies : LiesText (length drawing.characters.now) a × Lies drawing.characters.now there
      spoken-lies = subst (Lies drawing.characters.now) (sym q) w.lies

      abbrev on_from : Tree → Out Tree
      on_from r = inside_of drawing e there s.p r

      pub text-refused : (k : ℕ) → refused k ≡ append_text drawing.characters.now (a ∷ []) s.p t → refused k ≡ whole drawing e ns ats bs s ns ats bs
      text-refused k h = ap (λ (o : Out Tree). then o on_from) h ∙ ap (λ xs. inside_of drawing e xs s.p t) q

      pub goes-text : (ns' bs' : List ℕ) (k : Counts) → done (tree_of ns' ats bs' k) ≡ append_text drawing.characters.now (a ∷ []) s.p t →
          Goes drawing e ns ats bs s ns' ats bs' (record { c = c; p = s.p; counts = k; space = s.space }) × (s.c.at < c.at)
      unfolding leave
      goes-text ns' bs' k h =
          let g = text-onward (length drawing.characters.now) e t w.sound s.p w.up w.below drawing.characters.now (a ∷ []) (tree_of ns' ats bs' k) h in (
            record {
              within = elsewhere ns' ats bs' k g c s.p s.space f.fit spoken-lies.1 w.up (omega (arith, w.below, g.more))
                  (space-on ns' ats bs' k g);
              later = omega (arith, f.further);
              same = ap (λ (o : Out Tree). then o on_from) h ∙ ap (λ xs. inside_of drawing e xs s.p t) q;
              way = λ rest v. way_on ns' ats bs' k g here there rest (λ d l. ap (leave d) q ∙ l) v;
            },
            f.further,
          )

      pub text-recalled : (ns' bs' : List ℕ) (k : Counts) → done (tree_of ns' ats bs' k) ≡ append_text drawing.characters.now (a ∷ []) s.p t →
          (v : Levels) → Recalled drawing.characters.now t s.p v → Recalled drawing.characters.now (tree_of ns' ats bs' k) s.p v
      text-recalled ns' bs' k h v m =
          recalled ns' ats bs' k (text-onward (length drawing.characters.now) e t w.sound s.p w.up w.below drawing.characters.now (a ∷ [])
          (tree_of ns' ats bs' k) h) v m

  pub ends-none : [] ≡ here → Ends drawing e ns ats bs s ns ats bs s.counts s.c
  unfolding leave
  ends-none q = record {
    fit = w.fit;
    sound = w.sound;
    below = omega (arith, w.up, w.below);
    later = omega arith;
    same = ap (λ xs. inside_of drawing e xs s.p t) q;
    behind = λ rest v. sym q ∙ ap (leave v.deep) q ∙ v.left;
  }

  -- AN ELEMENT

  module _ (x : Opened) (o : Opening drawing s x) where
    abbrev X : Element
    X = element_of drawing x

    abbrev xs : List Event
    xs = events_at drawing x.inside

    opened : inside_of drawing e (begin X ∷ xs) s.p t ≡ whole drawing e ns ats bs s ns ats bs
    opened = ap (λ ys. inside_of drawing e ys s.p t) o.events

    pub ready : Ready ns ats s.counts s.p
    ready = kept-ready (length drawing.characters.now) ns ats bs s.counts w.sound.tidy.kept (w.sound.few.0, w.sound.few.1) s.p w.below

    -- An element that is not read here.
    pub goes-past : is_text_content X (eqb s.p e) ≡ false → (c : Cursor) → events_at drawing c ≡ leave 0 xs → Fit drawing c →
        x.inside.at ≤ c.at →
        Goes drawing e ns ats bs s ns ats bs (record { c = c; p = s.p; counts = s.counts; space = s.space }) × (s.c.at < c.at)
    unfolding leave
    goes-past unread c q f l =
        let y : inside (plain drawing.characters.now) (document drawing) e xs 1 s.p t ≡ inside_of drawing e (begin X ∷ xs) s.p t =
        rw unread refl in (
          record {
            within = elsewhere ns ats bs s.counts none c s.p s.space f (rw q (lies-leave drawing.characters.now 0 xs o.lies)) w.up w.below
                w.space;
            later = omega (arith, o.further.further);
            same = ap (λ ys. inside_of drawing e ys s.p t) q
                ∙ sym (inside_past (plain drawing.characters.now) (document drawing) e 0 xs s.p t) ∙ y ∙ opened;
            way = λ rest v. way_on ns ats bs s.counts none here (events_at drawing c) rest
                (λ d h. ap (leave d) q ∙ sym (leave-past d xs) ∙ ap (leave d) o.events ∙ h) v;
          },
          omega (arith, o.further.further),
        )

    -- One that is read here, under the name `tag`.
    module _ (is : is_text_content X (eqb s.p e) ≡ true) (tag : ℕ) (named : tag ≡ text_tag_of X) where
      -- What follows the element's own node.
      abbrev inner : Tree → Out Tree
      inner r =
          pick (eqb X.code EId.Tref)
          (λ v. then (quote_of drawing.characters.now (quoted (document drawing) X) s.counts.nodes r)
          (λ q. inside (plain drawing.characters.now) (document drawing) e xs 1 s.p q))
          (λ v. inside_of drawing e xs s.counts.nodes r)

      content : then (parse_svg_element X tag false s.p t) inner ≡ whole drawing e ns ats bs s ns ats bs
      content =
          ap (λ m. then (parse_svg_element X m false s.p t) inner) named
          ∙ (let z : then (parse_svg_element X (text_tag_of X) false s.p t) inner ≡ inside_of drawing e (begin X ∷ xs) s.p t =
          rw is refl in z) ∙ opened

      pub element-refused : (k : ℕ) → refused k ≡ parse_svg_element X tag false s.p t →
          refused k ≡ whole drawing e ns ats bs s ns ats bs
      element-refused k h = ap (λ (y : Out Tree). then y inner) h ∙ content

      module _ (ns₁ ats₁ bs₁ : List ℕ) (k : Counts) (behind : Cursor)
          (nodes : SameNodes drawing x.inside behind)
          (told : done (tree_of ns₁ ats₁ bs₁ k) ≡ parse_svg_element X tag false s.p t) where
        grown : Under (length drawing.characters.now) e t (tree_of ns₁ ats₁ bs₁ k) s.p
        grown =
            element-under (length drawing.characters.now) e t w.sound s.p w.up w.below tag
            (ap is_element named ∙ tag-element X (eqb s.p e) is) false X o.element (tree_of ns₁ ats₁ bs₁ k) told

        so_far : inner (tree_of ns₁ ats₁ bs₁ k) ≡ whole drawing e ns ats bs s ns ats bs
        so_far = ap (λ (y : Out Tree). then y inner) told ∙ content

        -- The space of its node.
        pub new-space : (sp : XmlSpace) → space_in sp ≡ get_xmlspace drawing.characters.now (read_of ns₁ ats₁) s.counts.nodes (space_in s.space) →
            space_in sp ≡ space_of drawing.characters.now (read_of ns₁ ats₁) s.counts.nodes
        new-space sp q =
            q
            ∙ ap (get_xmlspace drawing.characters.now (read_of ns₁ ats₁) s.counts.nodes) (space-on ns₁ ats₁ bs₁ k grown.onward
            ∙ sym (space-same drawing.characters.now (tree_of ns₁ ats₁ bs₁ k) s.p) ∙ space-from drawing.characters.now (read_of ns₁ ats₁) s.p
            ∙ ap (space_from drawing.characters.now (read_of ns₁ ats₁)) (sym grown.new))
            ∙ sym (space-step drawing.characters.now (read_of ns₁ ats₁) s.counts.nodes
            (λ j b. (grown.onward.sound.tidy.kept.nodes j (omega (arith, grown.one))).falls))

        -- Its inside comes next.
        pub goes_in : (sp : XmlSpace) → space_in sp ≡ get_xmlspace drawing.characters.now (read_of ns₁ ats₁) s.counts.nodes (space_in s.space) →
            (X.code ≡ EId.Tref → ⊥) →
            Goes drawing e ns ats bs s ns₁ ats₁ bs₁ (record { c = behind; p = s.counts.nodes; counts = k; space = sp })
            × (s.c.at < behind.at)
        unfolding leave
        goes_in sp sq plain-text =
            let y : inside_of drawing e xs s.counts.nodes (tree_of ns₁ ats₁ bs₁ k) ≡ inner (tree_of ns₁ ats₁ bs₁ k) =
            rw (ne_eqb X.code EId.Tref plain-text) refl in (
              record {
                within = elsewhere ns₁ ats₁ bs₁ k grown.onward behind s.counts.nodes sp nodes.fit
                    (rw nodes.events o.lies) (omega (arith, w.up, w.below)) (omega (arith, grown.one))
                    (new-space sp sq ∙ space-same drawing.characters.now (tree_of ns₁ ats₁ bs₁ k) s.counts.nodes);
                later = omega (arith, o.further.further, nodes.later);
                same = ap (λ ys. inside_of drawing e ys s.counts.nodes (tree_of ns₁ ats₁ bs₁ k)) nodes.events ∙ y ∙ so_far;
                way = λ rest v. record {
                  deep = suc v.deep;
                  up = (
                    omega (arith, w.up, w.below),
                    subst (λ q. Up ns₁ e v.deep (q - 1)) (sym grown.new)
                        (let z : s.p ≡ s.p + 1 - 1 = omega arith in
                        subst (λ q. Up ns₁ e v.deep q) z
                        (up_kept ns ns₁ s.counts.nodes e grown.onward.old falls v.deep s.p w.below v.up)),
                  );
                  left = ap (leave (suc v.deep)) nodes.events ∙ ap (leave v.deep) o.events ∙ v.left;
                };
              },
              omega (arith, o.further.further, nodes.later),
            )

        pub in-recalled : (v : Levels) → Recalled drawing.characters.now t s.p v → (r : Levels) →
            Pushed v (space_in s.space) r → Recalled drawing.characters.now (tree_of ns₁ ats₁ bs₁ k) s.counts.nodes r
        in-recalled v m r push =
            recalled-in drawing.characters.now (tree_of ns₁ ats₁ bs₁ k) s.p s.counts.nodes v r (space_in s.space) grown.new
            (space-on ns₁ ats₁ bs₁ k grown.onward) (recalled ns₁ ats₁ bs₁ k grown.onward v m) push

        -- A tref quotes below its node.
        pub tref-holds : Holding (length drawing.characters.now) (tree_of ns₁ ats₁ bs₁ k) s.counts.nodes
        tref-holds =
            let g = grown.onward.sound in
            record { kept = g.tidy.kept; few = (g.few.0, g.few.2); below = omega (arith, grown.one) }

        module _ (is-tref : X.code ≡ EId.Tref) where
          quotes : then (quote_of drawing.characters.now (quoted (document drawing) X) s.counts.nodes (tree_of ns₁ ats₁ bs₁ k))
              (λ q. inside (plain drawing.characters.now) (document drawing) e xs 1 s.p q) ≡ whole drawing e ns ats bs s ns ats bs
          quotes =
              (let z : then (quote_of drawing.characters.now (quoted (document drawing) X) s.counts.nodes (tree_of ns₁ ats₁ bs₁ k))
              (λ q. inside (plain drawing.characters.now) (document drawing) e xs 1 s.p q) ≡ inner (tree_of ns₁ ats₁ bs₁ k) =
              rw (eq-eqb X.code EId.Tref is-tref) refl in z) ∙ so_far

          pub tref-refused : (j : ℕ) →
              refused j ≡ quote_of drawing.characters.now (quoted (document drawing) X) s.counts.nodes (tree_of ns₁ ats₁ bs₁ k) →
              refused j ≡ whole drawing e ns ats bs s ns ats bs
          tref-refused j h =
              ap (λ (y : Out Tree). then y (λ q. inside (plain drawing.characters.now) (document drawing) e xs 1 s.p q)) h ∙ quotes

          tref-onward : (ns₂ bs₂ : List ℕ) (m : Counts) →
              done (tree_of ns₂ ats₁ bs₂ m) ≡ quote_of drawing.characters.now (quoted (document drawing) X) s.counts.nodes (tree_of ns₁ ats₁ bs₁ k) →
              Onward (length drawing.characters.now) e t (tree_of ns₂ ats₁ bs₂ m)
          tref-onward ns₂ bs₂ m h =
              onward_then (length drawing.characters.now) e t (tree_of ns₁ ats₁ bs₁ k) (tree_of ns₂ ats₁ bs₂ m) grown.onward
              (quote-onward (length drawing.characters.now) e (tree_of ns₁ ats₁ bs₁ k) grown.onward.sound s.counts.nodes
              (omega (arith, w.up, w.below)) (omega (arith, grown.one)) drawing.characters.now (quoted (document drawing) X)
              (tree_of ns₂ ats₁ bs₂ m) h)

          pub tref-recalled : (ns₂ bs₂ : List ℕ) (m : Counts) →
              done (tree_of ns₂ ats₁ bs₂ m) ≡ quote_of drawing.characters.now (quoted (document drawing) X) s.counts.nodes (tree_of ns₁ ats₁ bs₁ k) →
              (v : Levels) → Recalled drawing.characters.now t s.p v → Recalled drawing.characters.now (tree_of ns₂ ats₁ bs₂ m) s.p v
          tref-recalled ns₂ bs₂ m h v r = recalled ns₂ ats₁ bs₂ m (tref-onward ns₂ bs₂ m h) v r

          pub goes-tref : (ns₂ bs₂ : List ℕ) (m : Counts) →
              done (tree_of ns₂ ats₁ bs₂ m) ≡ quote_of drawing.characters.now (quoted (document drawing) X) s.counts.nodes (tree_of ns₁ ats₁ bs₁ k) →
              (c : Cursor) → events_at drawing c ≡ leave 0 (events_at drawing behind) → Fit drawing c → behind.at ≤ c.at →
              Goes drawing e ns ats bs s ns₂ ats₁ bs₂ (record { c = c; p = s.p; counts = m; space = s.space }) × (s.c.at < c.at)
          unfolding leave
          goes-tref ns₂ bs₂ m h c q f l =
              let g = tref-onward ns₂ bs₂ m h in
              let past : events_at drawing c ≡ leave 0 xs = q ∙ ap (leave 0) nodes.events in (
                record {
                  within = elsewhere ns₂ ats₁ bs₂ m g c s.p s.space f (rw past (lies-leave drawing.characters.now 0 xs o.lies)) w.up
                      (omega (arith, w.below, g.more)) (space-on ns₂ ats₁ bs₂ m g);
                  later = omega (arith, o.further.further, nodes.later);
                  same = ap (λ ys. inside_of drawing e ys s.p (tree_of ns₂ ats₁ bs₂ m)) past
                      ∙ sym (inside_past (plain drawing.characters.now) (document drawing) e 0 xs s.p (tree_of ns₂ ats₁ bs₂ m))
                      ∙ ap (λ (y : Out Tree). then y (λ q. inside (plain drawing.characters.now) (document drawing) e xs 1 s.p q)) h ∙ quotes;
                  way = λ rest v. way_on ns₂ ats₁ bs₂ m g here (events_at drawing c) rest
                      (λ d h. ap (leave d) past ∙ sym (leave-past d xs) ∙ ap (leave d) o.events ∙ h) v;
                },
                omega (arith, o.further.further, nodes.later),
              )

-- ONE TURN AFTER ANOTHER

pub goes_none : (drawing : Drawing) (e : ℕ) (ns ats bs : List ℕ) (s : State) → Within drawing ns ats bs e s →
    Goes drawing e ns ats bs s ns ats bs s
goes_none drawing e ns ats bs s w = record { within = w; later = omega arith; same = refl; way = λ rest v. v }

module _ (drawing : Drawing) (e : ℕ) (ns₀ ats₀ bs₀ : List ℕ) (first : State) (ns ats bs : List ℕ) (s : State)
    (g : Goes drawing e ns₀ ats₀ bs₀ first ns ats bs s) (ns' ats' bs' : List ℕ) where
  pub goes_on : (n : State) → Goes drawing e ns ats bs s ns' ats' bs' n → Goes drawing e ns₀ ats₀ bs₀ first ns' ats' bs' n
  goes_on n h = record {
    within = h.within;
    later = omega (arith, g.later, h.later);
    same = h.same ∙ g.same;
    way = λ rest v. h.way rest (g.way rest v);
  }

  pub ends_on : (k : Counts) (c : Cursor) → Ends drawing e ns ats bs s ns' ats' bs' k c →
      Ends drawing e ns₀ ats₀ bs₀ first ns' ats' bs' k c
  ends_on k c h = record {
    fit = h.fit;
    sound = h.sound;
    below = h.below;
    later = omega (arith, g.later, h.later);
    same = h.same ∙ g.same;
    behind = λ rest v. h.behind rest (g.way rest v);
  }

module _ (drawing : Drawing) (e : ℕ) (ns ats bs : List ℕ) (s : State) (ns' ats' bs' : List ℕ) (v : Levels)
    (r : Result (ControlFlow Parsed State) Refusal) (h : TurnFit drawing e ns ats bs s ns' ats' bs' v r) where
  pub turn-flow : (x y : ControlFlow Parsed State) → r ≡ Ok x → x ≡ y → FlowFit drawing e ns ats bs s ns' ats' bs' v y
  turn-flow x y q p =
      subst (FlowFit drawing e ns ats bs s ns' ats' bs' v) p (subst (TurnFit drawing e ns ats bs s ns' ats' bs' v) q h)

  pub turn-none : (k : Refusal) → r ≡ Err k → refused (number_of k) ≡ whole drawing e ns ats bs s ns' ats' bs'
  turn-none k q = subst (TurnFit drawing e ns ats bs s ns' ats' bs' v) q h
