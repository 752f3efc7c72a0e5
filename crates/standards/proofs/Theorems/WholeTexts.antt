-- Text nodes in the tables of a build: what an element, a text, a trimming and the repairs keep of them.
use Rattle.std.specs.Prelude.{ℕ, zero, suc, ◌+◌, ◌-◌, ◌*◌, ◌≤◌, ◌<◌, ◌⊎◌, Bool, true, false, List, [], ◌∷◌, eqb, ltb, get_or, set, take}
use Rattle.std.specs.Prelude.{replicate}
use Rattle.std.proofs.Math.Path.{◌≡◌, refl, sym}
use Rattle.std.proofs.Common.{ap, ◌∙◌, inl, inr, length-take, length-drop, length-append, get_or-set_same, get_or-set_other, ext_get_or}
use Rattle.std.proofs.Common.{get_or-take, get_or-drop}
use native.Mathlib.Omega.{arith}
use Rattle.std.proofs.Math.Decide.{dec_lt}
use Rattle.std.proofs.Math.ListN.{length, length-set}
use Rattle.std.proofs.lemmas.List.Edits.{sets}
use Rattle.std.proofs.Math.Seq.{slice, length-sets, length-slice}
use Rattle.model.specs.Base.{pick, and}
use Rattle.model.specs.Drawing.{Source}
use Rattle.model.specs.Tables.{Tree, Out, ELEMENT, TEXT, word, kind_of, parent_of, from_of, to_of, text_of, set_text, Entry, node_room}
use Rattle.model.specs.Tables.{add_element}
use Rattle.model.specs.Tables.{add_text, cleared, rooted, set_none}
use Rattle.model.specs.Text.{XmlSpace, is_default, SPACE, converted, trim_text_after, trim_text, total_size, joined, space_of, get_xmlspace}
use Rattle.model.specs.Text.{Trimming, stop, look, cut, cut_text, cut_from, cut_to, run, depth_below, text_nodes, own_text_nodes, trimming}
use Rattle.model.specs.Text.{trim_text_nodes}
use Rattle.model.specs.Noted.{Note, size, Noted, In, note_of}
use Rattle.model.specs.Repair.{Cut, cut_entry, apply_cut, applied}
use Rattle.model.proofs.Theorems.Laws.{appended-old, appended-new, room_fits}
use Rattle.model.proofs.Theorems.Agree.{agree-outs, agree-slice, sets-in}
use Rattle.model.proofs.Theorems.Unused.{element-lengths, text-lengths}
use Rattle.model.specs.Theorems.Good.{Fits, Apart}
use Rattle.model.specs.Theorems.Reach.{Within}
use Rattle.model.proofs.Theorems.Reach.{within-trimming, own-collected}
use Rattle.model.specs.Theorems.Always.{Always}
use Rattle.standards.proofs.Theorems.Trimmings.{Placed, within-cut, placed-cut, lengths}
use Rattle.standards.proofs.Theorems.Shaved.{Rising}

-- TEXTS AFTER AN APPEND

-- What a run of stores leaves in its place.
stored : (vs xs : List ℕ) (p : ℕ) → p + length vs ≤ length xs → slice p (p + length vs) (sets xs p vs) ≡ vs
stored vs xs p h =
    let long : length (slice p (p + length vs) (sets xs p vs)) ≡ length vs =
    length-slice p (p + length vs) (sets xs p vs) (rw (length-sets xs p vs) h)
    ∙ (let z : p + length vs - p ≡ length vs = omega arith in z) in
    ext_get_or 0 _ _ long (λ i l.
    let b : i < length vs = rw long at l in
    rw (get_or-drop p (take (p + length vs) (sets xs p vs)) i 0, get_or-take (p + length vs) (sets xs p vs) (p + i) 0 (omega arith))
    (sets-in vs xs p i h b))

module _ (bs : List ℕ) (n p : ℕ) (t : Tree) where
  -- The words of a node that was there, links apart.
  pub text-old : (j k : ℕ) → j < t.node_count → k < 8 → (2 ≤ k → k ≤ 4 → ⊥) → word (add_text bs n p t).nodes j k ≡ word t.nodes j k
  unfolding add_text
  text-old j k l b h = appended-old TEXT 0 t.text_count (t.text_count + length bs) t.nodes p t.node_count j k l b h

  -- The text of a node that was there, whose bytes lie before the new place.
  pub old-text : (j : ℕ) → j < t.node_count → to_of t j ≤ t.text_count → text_of (add_text bs n p t) j ≡ text_of t j
  unfolding text_of add_text
  old-text j l h =
      rw (text-old j 6 l (omega arith) (λ x y. omega arith), text-old j 7 l (omega arith) (λ x y. omega arith))
      (agree-slice {P = λ k. k < to_of t j} (from_of t j) (to_of t j) (λ k x y. y)
      (agree-outs {P = λ k. k < to_of t j} bs t.text t.text_count (λ k x y z. omega arith)))

  module _ (room : 8 * t.node_count + 8 ≤ length t.nodes) where
    -- The words of the new node.
    pub new_word : (k : ℕ) → k < 8 → (2 ≤ k → k ≤ 4 → ⊥) →
        word (add_text bs n p t).nodes t.node_count k ≡ get_or
        (TEXT ∷ (p + 1) ∷ 0 ∷ 0 ∷ 0 ∷ 0 ∷ t.text_count ∷ (t.text_count + length bs) ∷ []) k 0
    unfolding add_text
    new_word k b h = appended-new TEXT 0 t.text_count (t.text_count + length bs) t.nodes p t.node_count k room b h

    -- The text of the new node.
    pub new-text : t.text_count + length bs ≤ length t.text → text_of (add_text bs n p t) t.node_count ≡ bs
    unfolding text_of add_text
    new-text h =
        rw (new_word 6 (omega arith) (λ x y. omega arith), new_word 7 (omega arith) (λ x y. omega arith))
        (stored bs t.text t.text_count h)

module _ (c : ℕ) (es : List Entry) (p : ℕ) (t : Tree) where
  pub element-old : (j k : ℕ) → j < t.node_count → k < 8 → (2 ≤ k → k ≤ 4 → ⊥) → word (add_element c es p t).nodes j k ≡ word t.nodes j k
  unfolding add_element
  element-old j k l b h = appended-old ELEMENT c t.attribute_count (t.attribute_count + length es) t.nodes p t.node_count j k l b h

  pub element-text : (j : ℕ) → j < t.node_count → text_of (add_element c es p t) j ≡ text_of t j
  unfolding text_of add_element
  element-text j l = rw (element-old j 6 l (omega arith) (λ x y. omega arith), element-old j 7 l (omega arith) (λ x y. omega arith)) refl

  pub element-kind : 8 * t.node_count + 8 ≤ length t.nodes → kind_of (add_element c es p t) t.node_count ≡ ELEMENT
  unfolding add_element
  element-kind r = appended-new ELEMENT c t.attribute_count (t.attribute_count + length es) t.nodes p t.node_count 0 r
      (omega arith) (λ x y. omega arith)

-- LENGTHS

pub trim-fits : (w : XmlSpace) (prev : ℕ) (bs : List ℕ) → length (trim_text_after w prev bs) ≤ length bs
unfolding trim_text_after
trim-fits w prev [] = omega arith
trim-fits w prev (b ∷ bs) = go (trim-fits w prev bs) (trim-fits w (converted b) bs)
    (and (is_default w) (and (eqb (converted b) SPACE) (eqb (converted b) prev)))
  where
    go : length (trim_text_after w prev bs) ≤ length bs → length (trim_text_after w (converted b) bs) ≤ length bs → (c : Bool) →
        length (pick c (λ u. trim_text_after w prev bs) (λ u. converted b ∷ trim_text_after w (converted b) bs)) ≤ suc (length bs)
    go f g true = omega arith
    go f g false = omega arith

pub joined-fits : (chars : List ℕ) (from : List Source) → length (joined chars from) ≤ total_size from
unfolding joined total_size
joined-fits chars [] = omega arith
joined-fits chars (a ∷ more) = omega (
  arith,
  joined-fits chars more,
  length-append (slice a.start (a.start + a.size) chars) (joined chars more),
  length-drop a.start (take (a.start + a.size) chars),
  length-take (a.start + a.size) chars,
)

-- `trim_text` makes no text longer than its sources are together.
pub made-fits : (w : XmlSpace) (chars : List ℕ) (from : List Source) → length (trim_text w (joined chars from)) ≤ total_size from
unfolding trim_text
made-fits w chars from = omega (arith, trim-fits w 48 (joined chars from), joined-fits chars from)

-- WHAT HOLDS AT ALL TIMES OF A BUILD

-- Records and bytes that are counted are there; notes and text nodes belong together; and each text lies in its own place.
pub record Held (chars : List ℕ) (s : Noted) : Type 0 where
  pub room : 8 * s.tree.node_count ≤ length s.tree.nodes
  pub bytes : s.tree.text_count ≤ length s.tree.text
  pub below : (n : Note) → In n s.notes → (n.node < s.tree.node_count) × (n.start + size n ≤ s.tree.text_count)
  pub fits : (n : Note) → In n s.notes → Fits n s.tree
  pub apart : Apart s.notes
  pub noted : (i : ℕ) → i < s.tree.node_count → kind_of s.tree i ≡ TEXT → (n : Note) × In n s.notes × (n.node ≡ i)

pub always-test : {S : Type 0} (P : S → Type 0) (b : Bool) (x y : Unit {0} → Out S) → (b ≡ true → Always P (x tt)) →
    (b ≡ false → Always P (y tt)) → Always P (pick b x y)
always-test P true x y h g = h refl
always-test P false x y h g = g refl

fits_on : (n : Note) (s t : Tree) → kind_of t n.node ≡ kind_of s n.node → from_of t n.node ≡ from_of s n.node →
    to_of t n.node ≡ to_of s n.node →
    Fits n s → Fits n t
fits_on n s t a b c f = record { kind = a ∙ f.kind; low = rw b f.low; mid = rw (b, c) f.mid; high = rw c f.high }

module _ (chars : List ℕ) where
  pub element-held : (c : ℕ) (es : List Entry) (p : ℕ) (s : Noted) → 8 * s.tree.node_count + 8 ≤ length s.tree.nodes → Held chars s →
      Held chars (record { tree = add_element c es p s.tree; notes = s.notes })
  unfolding add_element
  element-held c es p s room h = record {
    room = rw (element-lengths c es p t).nodes (omega arith);
    bytes = h.bytes;
    below = λ n i. (omega (arith, (h.below n i).0), (h.below n i).1);
    fits = λ n i. let b = (h.below n i).0 in
        fits_on n t _ (old n b 0 (omega arith) (λ x y. omega arith)) (old n b 6 (omega arith) (λ x y. omega arith))
        (old n b 7 (omega arith) (λ x y. omega arith)) (h.fits n i);
    apart = h.apart;
    noted = λ i l k. go i l k (dec_lt i t.node_count);
  }
    where
      t : Tree
      t = s.tree

      old : (n : Note) → n.node < t.node_count → (k : ℕ) → k < 8 → (2 ≤ k → k ≤ 4 → ⊥) → word (add_element c es p t).nodes n.node k
          ≡ word t.nodes n.node k
      old n l k x y = element-old c es p t n.node k l x y

      go : (i : ℕ) → i < t.node_count + 1 → kind_of (add_element c es p t) i ≡ TEXT → Dec (i < t.node_count) →
          (n : Note) × In n s.notes × (n.node ≡ i)
      go i l k (yes b) = h.noted i b (sym (element-old c es p t i 0 b (omega arith) (λ x y. omega arith)) ∙ k)
      go i l k (no b) =
          let e : i ≡ t.node_count = omega arith in
          let z : ◌≡◌ {A = ℕ} 2 3 = sym (element-kind c es p t room) ∙ (rw e at k) in
          absurd (omega arith)

  pub text-held : (w : XmlSpace) (e : ℕ) (from : List Source) (p : ℕ) (s : Noted) → 8 * s.tree.node_count + 8 ≤ length s.tree.nodes →
      s.tree.text_count + total_size from ≤ length s.tree.text → Held chars s →
      Held chars (record {
        tree = add_text (trim_text w (joined chars from)) (total_size from) p s.tree;
        notes =
            note_of e from s.tree.node_count s.tree.text_count ∷ s.notes;
      })
  unfolding add_text
  text-held w e from p s room space h = record {
    room = rw (text-lengths bs (total_size from) p t).nodes (omega arith);
    bytes = rw (text-lengths bs (total_size from) p t).text space;
    below = λ n i. low n i;
    fits = λ n i. fit n i;
    apart = (h.below, h.apart);
    noted = λ i l k. go i l k (dec_lt i t.node_count);
  }
    where
      t : Tree
      t = s.tree

      bs : List ℕ
      bs = trim_text w (joined chars from)

      grown : Tree
      grown = add_text bs (total_size from) p t

      new : Note
      new = note_of e from t.node_count t.text_count

      short : length bs ≤ total_size from
      short = made-fits w chars from

      its : (k : ℕ) → k < 8 → (2 ≤ k → k ≤ 4 → ⊥) → word grown.nodes t.node_count k
          ≡ get_or (TEXT ∷ (p + 1) ∷ 0 ∷ 0 ∷ 0 ∷ 0 ∷ t.text_count ∷ (t.text_count + length bs) ∷ []) k 0
      its k x y = new_word bs (total_size from) p t room k x y

      low : (n : Note) → In n (new ∷ s.notes) → (n.node < t.node_count + 1) × (n.start + size n ≤ t.text_count + total_size from)
      low n (inl q) = rw q (omega arith, omega arith)
      low n (inr i) = (omega (arith, (h.below n i).0), omega (arith, (h.below n i).1))

      fit : (n : Note) → In n (new ∷ s.notes) → Fits n grown
      fit n (inl q) = rw q (record {
        kind = its 0 (omega arith) (λ x y. omega arith);
        low = rw (its 6 (omega arith) (λ x y. omega arith)) (omega arith);
        mid = rw (its 6 (omega arith) (λ x y. omega arith), its 7 (omega arith) (λ x y. omega arith)) (omega arith);
        high = rw (its 7 (omega arith) (λ x y. omega arith)) (omega (arith, short));
      })
      fit n (inr i) =
          let b = (h.below n i).0 in
          fits_on n t grown (text-old bs (total_size from) p t n.node 0 b (omega arith) (λ x y. omega arith))
          (text-old bs (total_size from) p t n.node 6 b (omega arith) (λ x y. omega arith))
          (text-old bs (total_size from) p t n.node 7 b (omega arith) (λ x y. omega arith)) (h.fits n i)

      go : (i : ℕ) → i < t.node_count + 1 → kind_of grown i ≡ TEXT → Dec (i < t.node_count) →
          (n : Note) × In n (new ∷ s.notes) × (n.node ≡ i)
      go i l k (yes b) =
          let f = h.noted i b (sym (text-old bs (total_size from) p t i 0 b (omega arith) (λ x y. omega arith)) ∙ k) in
          (f.0, inr f.1, f.2)
      go i l k (no b) = (new, inl refl, omega arith)

-- TRIMMING

pub kind-cut : (i a b : ℕ) (t : Tree) (j : ℕ) → kind_of (cut_text i a b t) j ≡ kind_of t j
unfolding cut_text set_text
kind-cut i a b t j =
    get_or-set_other (set t.nodes (8 * i + 6) (cut_from (from_of t i) (to_of t i) a)) (8 * i + 7) (8 * j + 0)
    (cut_to (from_of t i) (to_of t i) a b) 0 (omega arith)
    ∙ get_or-set_other t.nodes (8 * i + 6) (8 * j + 0) (cut_from (from_of t i) (to_of t i) a) 0 (omega arith)

-- What a cut of a node of Q keeps, a trimming that names only such nodes keeps.
pub run-keeps : (Q : ℕ → Type 0) (P : Tree → Type 0) → ((i a b : ℕ) (t : Tree) → Q i → P t → P (cut_text i a b t)) →
    (g : Trimming) → Within Q g → (t : Tree) → P t → P (run g t)
unfolding run
run-keeps Q P c stop w t p = p
run-keeps Q P c (look i k) w t p = run-keeps Q P c (k (text_of t i)) (w.1 (text_of t i)) t p
run-keeps Q P c (cut i a b k) w t p = run-keeps Q P c k w.1 (cut_text i a b t) (c i a b t w.0 p)

rising-nodes : (chars : List ℕ) (t : Tree) (w : XmlSpace) (e i n m : ℕ) → m < i → Rising m (text_nodes chars t w e i n)
unfolding text_nodes
rising-nodes chars t w e i zero m l = tt
rising-nodes chars t w e i (suc n) m l = go (eqb (kind_of t i) TEXT) (rising-nodes chars t w e (i + 1) n i (omega arith))
    (rising-nodes chars t w e (i + 1) n m (omega arith))
  where
    go : (b : Bool) → Rising i (text_nodes chars t w e (i + 1) n) → Rising m (text_nodes chars t w e (i + 1) n) →
        Rising m (pick b (λ u. record { node = i; depth = depth_below t e i i; space = get_xmlspace chars t (parent_of t i - 1) w }
        ∷ text_nodes chars t w e (i + 1) n)
        (λ u. text_nodes chars t w e (i + 1) n))
    go true h g = (l, h)
    go false h g = g

pub own-rising : (chars : List ℕ) (t : Tree) (w : XmlSpace) (e n : ℕ) → Rising e (own_text_nodes chars t w e n)
unfolding own_text_nodes
own-rising chars t w e n = rising-nodes chars t w e (e + 1) (n - (e + 1)) e (omega arith)

nothing-own : (chars : List ℕ) (t : Tree) (w : XmlSpace) (e n : ℕ) → n ≤ e → own_text_nodes chars t w e n ≡ []
unfolding own_text_nodes text_nodes
nothing-own chars t w e n h = let z : n - (e + 1) ≡ 0 = omega arith in ap (λ k. text_nodes chars t w e (e + 1) k) z

stopped : (w : XmlSpace) (t : Tree) → run (trimming w []) t ≡ t
unfolding run trimming
stopped w t = refl

apart-notes : (ns : List Note) → Apart ns → (n m : Note) → In n ns → In m ns → (n.node ≡ m.node → ⊥) →
    (n.start + size n ≤ m.start) ⊎ (m.start + size m ≤ n.start)
apart-notes [] h n m a b d = absurd a
apart-notes (k ∷ ns) h n m (inl a) (inl b) d = absurd (d (ap (λ (o : Note). o.node) (a ∙ sym b)))
apart-notes (k ∷ ns) h n m (inl a) (inr b) d = inr (rw a (h.0 m b).1)
apart-notes (k ∷ ns) h n m (inr a) (inl b) d = inl (rw b (h.0 n a).1)
apart-notes (k ∷ ns) h n m (inr a) (inr b) d = apart-notes ns h.1 n m a b d

module _ (chars : List ℕ) (s : Noted) (h : Held chars s) where
  -- The nodes of the notes.
  abbrev pub Noticed : ℕ → Type 0
  Noticed i = (n : Note) × In n s.notes × (n.node ≡ i)

  pub lies : (n : Note) → In n s.notes → (8 * n.node + 8 ≤ length s.tree.nodes)
      × (from_of s.tree n.node ≤ to_of s.tree n.node)
      × (to_of s.tree n.node ≤ length s.tree.text)
  lies n i =
      let b = h.below n i in
      let f = h.fits n i in
      (omega (arith, h.room, b.0), f.mid, omega (arith, f.high, b.1, h.bytes))

  pub places : Placed Noticed s.tree
  places = record {
    inside = λ i q. rw (← q.2) (lies q.0 q.1);
    apart = λ i j q r d. rw (← q.2, ← r.2) (either q.0 r.0 (h.fits q.0 q.1) (h.fits r.0 r.1)
        (apart-notes s.notes h.apart q.0 r.0 q.1 r.1 (λ e. d (sym q.2 ∙ e ∙ r.2))));
  }
    where
      either : (n m : Note) → Fits n s.tree → Fits m s.tree → (n.start + size n ≤ m.start) ⊎ (m.start + size m ≤ n.start) →
          (to_of s.tree n.node ≤ from_of s.tree m.node) ⊎ (to_of s.tree m.node ≤ from_of s.tree n.node)
      either n m f g (inl u) = inl (omega (arith, f.high, g.low))
      either n m f g (inr u) = inr (omega (arith, g.high, f.low))

  -- What stays.
  record Stays (t : Tree) : Type 0 where
    pub placed : Placed Noticed t
    pub node_count : t.node_count ≡ s.tree.node_count
    pub text_count : t.text_count ≡ s.tree.text_count
    pub nodes : length t.nodes ≡ length s.tree.nodes
    pub text : length t.text ≡ length s.tree.text
    pub kinds : (j : ℕ) → kind_of t j ≡ kind_of s.tree j
    pub fits : (n : Note) → In n s.notes → Fits n t

  stays-cut : (i a b : ℕ) (t : Tree) → Noticed i → Stays t → Stays (cut_text i a b t)
  unfolding cut_text set_text
  stays-cut i a b t q k = record {
    placed = placed-cut i a b t Noticed k.placed q;
    node_count = k.node_count;
    text_count = k.text_count;
    nodes = (lengths i a b t).0 ∙ k.nodes;
    text = (lengths i a b t).1 ∙ k.text;
    kinds = λ j. kind-cut i a b t j ∙ k.kinds j;
    fits = λ n l. let w = within-cut i a b t Noticed k.placed q n.node (n, l, refl) in let f = k.fits n l in
        record {
          kind = kind-cut i a b t n.node ∙ f.kind;
          low = omega (arith, f.low, w.0);
          mid = w.1;
          high =
              omega (arith, f.high, w.2);
        };
  }

  module _ (g : Trimming) (w : Within Noticed g) where
    run-held : Held chars (record { tree = run g s.tree; notes = s.notes })
    run-held =
        let k = run-keeps Noticed Stays stays-cut g w s.tree
        (record { placed = places; node_count = refl; text_count = refl; nodes = refl; text = refl; kinds = λ j. refl; fits = h.fits }) in
        record {
          room = rw (k.node_count, k.nodes) h.room;
          bytes = rw (k.text_count, k.text) h.bytes;
          below = λ n i. rw (k.node_count, k.text_count) (h.below n i);
          fits = k.fits;
          apart = h.apart;
          noted = λ i l e. h.noted i (rw (← k.node_count) l) (sym (k.kinds i) ∙ e);
        }

  pub finish-held : (e : ℕ) → Held chars (record { tree = trim_text_nodes chars e s.tree; notes = s.notes })
  unfolding trim_text_nodes
  finish-held e = go (dec_lt e s.tree.node_count)
    where
      v : XmlSpace
      v = space_of chars s.tree e

      go : Dec (e < s.tree.node_count) → Held chars (record {
        tree =
            run (trimming v (own_text_nodes chars s.tree v e s.tree.node_count)) s.tree;
        notes = s.notes;
      })
      go (yes l) = run-held _
          (within-trimming Noticed v _ (own-collected Noticed chars s.tree v e s.tree.node_count l (λ j x y k. h.noted j y k)))
      go (no l) = rw (nothing-own chars s.tree v e s.tree.node_count (omega arith)) (rw (stopped v s.tree) h)

-- THE ROOT

module _ (chars : List ℕ) where
  pub root-held : (n m b : ℕ) → ltb 0 (node_room (cleared n m b)) ≡ true → Held chars (record { tree = rooted (cleared n m b); notes = [] })
  unfolding rooted cleared
  root-held n m b h = record {
    room = rw length-set (omega (arith, room_fits (cleared n m b) h));
    bytes = omega arith;
    below = λ k i. absurd i;
    fits = λ k i. absurd i;
    apart = tt;
    noted = λ i l e.
        let q : i ≡ 0 = omega arith in
        let z : ◌≡◌ {A = ℕ} 1 3 = sym (get_or-set_same (replicate n 0) 0 1 0 (omega (arith, room_fits (cleared n m b) h))) ∙ (rw q at e) in
        absurd (omega arith);
  }

-- The repairs change no text.
pub one-cut : (c : Cut) (t : Tree) → ((apply_cut t c).nodes ≡ t.nodes) × ((apply_cut t c).text ≡ t.text)
    × ((apply_cut t c).node_count ≡ t.node_count)
unfolding apply_cut set_none
one-cut c t = go (eqb (cut_entry t c.pass c.node) 0)
  where
    go : (b : Bool) → ((pick b (λ u. t) (λ u. set_none (cut_entry t c.pass c.node - 1) t)).nodes ≡ t.nodes)
        × ((pick b (λ u. t) (λ u. set_none (cut_entry t c.pass c.node - 1) t)).text ≡ t.text)
        × ((pick b (λ u. t) (λ u. set_none (cut_entry t c.pass c.node - 1) t)).node_count ≡ t.node_count)
    go true = (refl, refl, refl)
    go false = (refl, refl, refl)

pub cuts-texts : (cs : List Cut) (t : Tree) → ((applied t cs).nodes ≡ t.nodes) × ((applied t cs).text ≡ t.text)
    × ((applied t cs).node_count ≡ t.node_count)
unfolding applied
cuts-texts [] t = (refl, refl, refl)
cuts-texts (c ∷ cs) t = let h = cuts-texts cs (apply_cut t c) in let g = one-cut c t in (h.0 ∙ g.0, h.1 ∙ g.1, h.2 ∙ g.2)
