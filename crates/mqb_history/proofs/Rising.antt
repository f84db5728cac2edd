-- The messages to one destination are committed in the order of their positions, by the lines of the whole ledger.
use Rattle.std.proofs.Common.{refl, ap, sym, subst, ◌∙◌, inl, inr}
use Rattle.std.specs.List.{AllByRecursion, cons_option}
use Rattle.std.specs.Prelude.{[], ◌&&◌, ◌++◌, ◌==◌, ◌∷◌, ◌≡◌, Bool, List, None, Option, Some, cond, filter_map, map, option_and_then, option_map, reverse, true, false, ℕ}
use Rattle.mqb_base.specs.Same.{same_guid, same_name}
use Rattle.mqb_base.specs.declared.ids.Guid.{Guid}
use Rattle.mqb_base.specs.declared.ids.Identity.{Identity}
use Rattle.mqb_base.specs.declared.ledger.Line.{Line}
use Rattle.mqb_base.specs.declared.ledger.Line.TheVariants as line
use Rattle.mqb_exactly_once.specs.ExactlyOnce.{Rises}
use Rattle.mqb_exactly_once.specs.Words.{In, precedes}
use Rattle.mqb_exactly_once.specs.World.{Channel, Commitment, Position}
use Rattle.mqb_model.specs.records.Applying.{lines_of}
use Rattle.mqb_network.specs.Courses.{Course, Written}
use Rattle.mqb_network.specs.Laws.{AreApart, lines_written}
use Rattle.mqb_network.specs.Network.{manager_at}
use Rattle.mqb_history.specs.Committed.{commitments, commitments_in}
use Rattle.mqb_history.specs.Decided.{RiseStrictly, written_of}
use Rattle.mqb_history.specs.Leading.{AreCommitmentsLed, IsLed}
use Rattle.mqb_history.specs.Ledger.{commitment_placed}
use Rattle.mqb_history.specs.Orderly.{IsOrderly}
use Rattle.mqb_history.specs.Shown.{AreExactlyOnce, Leads, commitments_to}
use Rattle.mqb_history.specs.Told.{AreCommitmentsTold, Joined, commitment_told, is_of, joined_by, place_in}
use Rattle.mqb_history.proofs.Committing.{in_append}
use Rattle.mqb_history.proofs.Courses.{Agrees}
use Rattle.mqb_history.proofs.Finding.{mapped_from, only_by}
use Rattle.mqb_history.proofs.Ledger.{IsKnown, one_writer}
use Rattle.mqb_history.proofs.Lists.{none_some, split_and}
use Rattle.mqb_history.proofs.Names.{same_guid_is, same_guid_refl, same_name_is}
use Rattle.mqb_history.proofs.Noticed.{in_flat, own_line, told_from, written_in}
use Rattle.mqb_history.proofs.Outside.{filtered_in}
use Rattle.mqb_history.proofs.Arriving.{own_by}
use Rattle.mqb_history.proofs.Puts.{told_in}
use Rattle.mqb_history.proofs.Reaching.{in_reverse, in_right, reverse_cons}

-- Lists that rise, the newest first or last.

all_before : {A : Type 0} (f : A → Position) (y : A) (xs : List A) → ((x : A) → In x xs → precedes (f y) (f x) ≡ true) → AllByRecursion (λ q. precedes (f y) q ≡ true) (map f xs)
all_before f y [] h = tt
all_before f y (x ∷ xs) h = (h x (inl refl), all_before f y xs (λ z i. h z (inr i)))

-- what rises from the last member to the first rises when it is turned
turned : {A : Type 0} (f : A → Position) (xs : List A) → Rises f (reverse xs) → RiseStrictly (map f xs)
turned f [] h = tt
turned {A} f (x ∷ xs) h = by (subst (Rises f) (reverse_cons x xs) h) (turned f xs)
  where
    last : (ys : List A) → Rises f (ys ++ x ∷ []) → (z : A) → In z ys → precedes (f x) (f z) ≡ true
    last [] g z i = absurd i
    last (y ∷ ys) g z (inl e) = subst (λ a. precedes (f x) (f a) ≡ true) e (g.0 x (in_right ys (x ∷ []) x (inl refl)))
    last (y ∷ ys) g z (inr i) = last ys g.1 z i

    front : (ys : List A) → Rises f (ys ++ x ∷ []) → Rises f ys
    front [] g = tt
    front (y ∷ ys) g = (λ z i. g.0 z (in_append ys (x ∷ []) z i), front ys g.1)

    by : Rises f (reverse xs ++ x ∷ []) → (Rises f (reverse xs) → RiseStrictly (map f xs)) → RiseStrictly (map f (x ∷ xs))
    by g rest = (all_before f x xs (λ z i. last (reverse xs) g z (in_reverse xs z i)), rest (front (reverse xs) g))

-- The place of what a message joins.

abbrev place_of : Channel → Joined → Option Position
place_of channel j = place_in channel j.stream j.number

by_joined : (channel : Channel) (l : Line) → commitment_placed channel l ≡ option_and_then (place_of channel) (commitment_told l)
by_joined channel (line.Committed stream number other) = refl
by_joined channel l = refl

through : (channel : Channel) (ls : List Line) → filter_map (commitment_placed channel) ls ≡ filter_map (place_of channel) (filter_map commitment_told ls)
through channel [] = refl
through channel (l ∷ ls) = ap (λ o. cons_option o (filter_map (commitment_placed channel) ls)) (by_joined channel l) ∙ ap (cons_option (option_and_then (place_of channel) (commitment_told l))) (through channel ls) ∙ at (commitment_told l)
  where
    at : (o : Option Joined) → cons_option (option_and_then (place_of channel) o) (filter_map (place_of channel) (filter_map commitment_told ls)) ≡ filter_map (place_of channel) (cons_option o (filter_map commitment_told ls))
    at None = refl
    at (Some j) = refl

-- whose line it is
commits_in : (channel : Channel) (l : Line) (p : Position) → commitment_placed channel l ≡ Some p → (j : Joined) × (commitment_told l ≡ Some j) × (j.stream.source ≡ channel.source) × (j.stream.destination ≡ channel.destination)
commits_in channel l p e = at (commitment_told l) refl (sym (by_joined channel l) ∙ e)
  where
    at : (o : Option Joined) → commitment_told l ≡ o → option_and_then (place_of channel) o ≡ Some p → (j : Joined) × (commitment_told l ≡ Some j) × (j.stream.source ≡ channel.source) × (j.stream.destination ≡ channel.destination)
    at None f g = absurd (none_some g)
    at (Some j) f g = by (is_of channel j.stream) refl g
      where
        by : (b : Bool) → is_of channel j.stream ≡ b → cond b (Some (record { sequence = j.stream.sequence; number = j.number })) None ≡ Some p
            → (i : Joined) × (commitment_told l ≡ Some i) × (i.stream.source ≡ channel.source) × (i.stream.destination ≡ channel.destination)
        by true same x = let both = split_and (same_guid j.stream.source channel.source) (same_name j.stream.destination channel.destination) same in
            (j, f, same_guid_is j.stream.source channel.source both.0, same_name_is j.stream.destination channel.destination both.1)
        by false same x = absurd (none_some x)

-- those of a manager's own channel
placed_are : (own : Guid) (channel : Channel) → own ≡ channel.source → (cs : List Commitment) → filter_map (place_of channel) (map (joined_by own) cs) ≡ map (λ m. m.position) (commitments_to channel.destination cs)
placed_are own channel same [] = refl
placed_are own channel same (m ∷ cs) = ap (λ b. cons_option (cond (b && same_name m.message.destination channel.destination) (Some m.position) None) (filter_map (place_of channel) (map (joined_by own) cs)))
    (subst (λ g. same_guid own g ≡ true) same (same_guid_refl own)) ∙ ap (cons_option (cond (same_name m.message.destination channel.destination) (Some m.position) None)) (placed_are own channel same cs) ∙ at (same_name m.message.destination channel.destination)
  where
    at : (b : Bool) → cons_option (cond b (Some m.position) None) (map (λ m. m.position) (commitments_to channel.destination cs)) ≡ map (λ m. m.position) (cons_option (cond b (Some m) None) (commitments_to channel.destination cs))
    at true = refl
    at false = refl

module _ (known : List Identity) (apart : AreApart known) (c : Course) (k : IsKnown known c) (told : AreCommitmentsTold c) (led : AreCommitmentsLed c) (once : AreExactlyOnce c) where
  abbrev o : IsOrderly known c
  o = k.orderly

  abbrev h : Agrees known c
  h = k.agrees

  abbrev all : List Line
  all = lines_written c.written

  abbrev guid_at : ℕ → Guid
  guid_at i = (manager_at c.network i).state.identity.guid

  -- the commitment that a line tells
  commitment_of : (w : Written) (l : Line) (j : Joined) → In w c.written → In l (lines_of w.before w.entry) → commitment_told l ≡ Some j
      → (m : Commitment) × In m (commitments (written_of w.by c.written)) × (joined_by (guid_at w.by) m ≡ j)
  commitment_of w l j i inside e = mapped_from (joined_by (guid_at w.by)) (commitments (written_of w.by c.written)) j
      (subst (In j) (told w.by) (told_in commitment_told (lines_written (written_of w.by c.written)) l j (own_line known apart c o h w l i inside) e))

  -- it leads to a manager
  leads_to : (i : ℕ) (m : Commitment) → In m (commitments (written_of i c.written)) → (j : ℕ) × Leads c.network i j m.message.destination
  leads_to i m inside = let w = in_flat (λ (v : Written). commitments_in v.before v.entry) (written_of i c.written) m inside in
      by (own_by i c.written w.0 w.1) (led w.0 m (filtered_in (λ (v : Written). v.by == i) c.written w.0 w.1) w.2)
    where
      by : {v : Written} → v.by ≡ i → IsLed c v m.message.destination → (j : ℕ) × Leads c.network i j m.message.destination
      by {v} e g = (
        g.manager,
        subst (λ n. Leads c.network n g.manager m.message.destination) e (record {
          there = g.now.there;
          peer = g.now.peer;
          target = g.now.target;
          identity = ap (option_map (λ (p : Identity). p.guid)) g.now.identity;
        }),
      )

  -- so its channel rises
  manager_rises : (i : ℕ) (m : Commitment) → In m (commitments (written_of i c.written)) → RiseStrictly (map (λ x. x.position) (commitments_to m.message.destination (commitments (written_of i c.written))))
  manager_rises i m inside = let j = leads_to i m inside in let w = once i j.0 m.message.destination j.1 in
      turned (λ (x : Commitment). x.position) (commitments_to m.message.destination (commitments (written_of i c.written))) (subst (Rises (λ (x : Commitment). x.position)) w.1.at_source.commits w.2.committed_in_order)

  pub committed_rises : (channel : Channel) → RiseStrictly (filter_map (commitment_placed channel) all)
  committed_rises channel = at (filter_map (commitment_placed channel) all) refl
    where
      from : (p : Position) → In p (filter_map (commitment_placed channel) all) → RiseStrictly (filter_map (commitment_placed channel) all)
      from p i = subst RiseStrictly (sym (only_by (commitment_placed channel) w.0.by c.written one ∙ through channel (lines_written (written_of w.0.by c.written)) ∙ ap (filter_map (place_of channel)) (told w.0.by)
          ∙ placed_are (guid_at w.0.by) channel own (commitments (written_of w.0.by c.written))))
          (subst (λ d. RiseStrictly (map (λ x. x.position) (commitments_to d (commitments (written_of w.0.by c.written))))) destination (manager_rises w.0.by m.0 m.1))
        where
          l : (l : Line) × In l all × (commitment_placed channel l ≡ Some p)
          l = told_from (commitment_placed channel) all p i

          w : (w : Written) × In w c.written × In l.0 (lines_of w.before w.entry)
          w = written_in known apart c o h l.0 l.1

          g : (j : Joined) × (commitment_told l.0 ≡ Some j) × (j.stream.source ≡ channel.source) × (j.stream.destination ≡ channel.destination)
          g = commits_in channel l.0 p l.2

          m : (m : Commitment) × In m (commitments (written_of w.0.by c.written)) × (joined_by (guid_at w.0.by) m ≡ g.0)
          m = commitment_of w.0 l.0 g.0 w.1 w.2 g.1

          own : guid_at w.0.by ≡ channel.source
          own = ap (λ (j : Joined). j.stream.source) m.2 ∙ g.2

          destination : m.0.message.destination ≡ channel.destination
          destination = ap (λ (j : Joined). j.stream.destination) m.2 ∙ g.3

          one : (v : Written) (x : Line) (q : Position) → In v c.written → In x (lines_of v.before v.entry) → commitment_placed channel x ≡ Some q → v.by ≡ w.0.by
          one v x q j inside e = let f = commits_in channel x q e in let y = commitment_of v x f.0 j inside f.1 in
              one_writer known apart c k v w.0 j w.1 (ap (λ (z : Joined). z.stream.source) y.2 ∙ f.2 ∙ sym own)

      at : (ps : List Position) → filter_map (commitment_placed channel) all ≡ ps → RiseStrictly (filter_map (commitment_placed channel) all)
      at [] e = subst RiseStrictly (sym e) tt
      at (p ∷ ps) e = from p (subst (In p) (sym e) (inl refl))
