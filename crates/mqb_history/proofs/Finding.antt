-- Which lines words find, and whose they are.
use Rattle.std.proofs.Common.{refl, ap, sym, ◌∙◌, arith, inl, inr}
use Rattle.std.specs.List.{AllByRecursion, cons_option}
use Rattle.std.specs.Prelude.{[], ◌&&◌, ◌++◌, ◌==◌, ◌||◌, ◌∷◌, ◌≡◌, ◌≤◌, Bool, List, None, Option, Some, cond, false, filter_map, map, nat_lt, true, ℕ}
use Rattle.std.proofs.lemmas.Bool.Decides.{nat_tests}
use Rattle.mqb_base.specs.Same.{same_guid, same_name}
use Rattle.mqb_base.specs.declared.ids.MessageId.{MessageId}
use Rattle.mqb_base.specs.declared.ids.SequenceId.{SequenceId}
use Rattle.mqb_base.specs.declared.ledger.Line.{Line}
use Rattle.mqb_base.specs.declared.ledger.Line.TheVariants as line
use Rattle.mqb_base.specs.declared.ledger.Stream.{Stream}
use Rattle.mqb_exactly_once.specs.Words.{In, precedes}
use Rattle.mqb_exactly_once.specs.World.{Channel, Position}
use Rattle.mqb_model.specs.records.Applying.{lines_of}
use Rattle.mqb_network.specs.Courses.{Written}
use Rattle.mqb_network.specs.Laws.{lines_written}
use Rattle.mqb_history.specs.Decided.{RiseStrictly, written_of}
use Rattle.mqb_history.specs.Expired.{expiry_told}
use Rattle.mqb_history.specs.Ledger.{Decides}
use Rattle.mqb_history.specs.Told.{Joined, commitment_told, decision_told, is_of, place_in}
use Rattle.mqb_history.proofs.Lines.{told_append}
use Rattle.mqb_history.proofs.Lists.{apart_numbers, clash, none_some, some_is, split_and}
use Rattle.mqb_history.proofs.Names.{same_guid_is, same_name_is}

-- Words that the lines of one manager alone pass.

none_pass : {X : Type 0} (f : Line → Option X) (ls : List Line) → ((l : Line) (x : X) → In l ls → f l ≡ Some x → ⊥) → filter_map f ls ≡ []
none_pass f [] none = refl
none_pass {X} f (l ∷ ls) none = at (f l) refl (none_pass f ls (λ k x i e. none k x (inr i) e))
  where
    at : (o : Option X) → f l ≡ o → filter_map f ls ≡ [] → cons_option o (filter_map f ls) ≡ []
    at None e rest = rest
    at (Some x) e rest = absurd (none l x (inl refl) e)

pub only_by : {X : Type 0} (f : Line → Option X) (i : ℕ) (ws : List Written) → ((w : Written) (l : Line) (x : X) → In w ws → In l (lines_of w.before w.entry) → f l ≡ Some x → w.by ≡ i)
    → filter_map f (lines_written ws) ≡ filter_map f (lines_written (written_of i ws))
only_by f i [] only = refl
only_by f i (w ∷ ws) only = at (w.by == i) refl (only_by f i ws (λ v l x j k e. only v l x (inr j) k e))
  where
    own : List Line
    own = lines_of w.before w.entry

    at : (b : Bool) → (w.by == i) ≡ b → filter_map f (lines_written ws) ≡ filter_map f (lines_written (written_of i ws))
        → filter_map f (own ++ lines_written ws) ≡ filter_map f (lines_written (cond b (w ∷ written_of i ws) (written_of i ws)))
    at true e rest = told_append f own (lines_written ws) ∙ ap (λ zs. filter_map f own ++ zs) rest ∙ sym (told_append f own (lines_written (written_of i ws)))
    at false e rest = told_append f own (lines_written ws) ∙ ap (λ zs. zs ++ filter_map f (lines_written ws)) (none_pass f own (λ l x j g. apart_from (only w l x (inl refl) j g))) ∙ rest
      where
        apart_from : w.by ≡ i → ⊥
        apart_from same = apart_numbers w.by i e same

-- what a function makes of a list it makes of a member
pub mapped_from : {X Y : Type 0} (f : X → Y) (xs : List X) (y : Y) → In y (map f xs) → (x : X) × In x xs × (f x ≡ y)
mapped_from f [] y i = absurd i
mapped_from f (x ∷ xs) y (inl e) = (x, inl refl, e)
mapped_from f (x ∷ xs) y (inr i) = let g = mapped_from f xs y i in (g.0, inr g.1, g.2)

-- Positions that rise.

pub rise_behind : (xs : List Position) (p : Position) (ys : List Position) → RiseStrictly (xs ++ p ∷ ys) → AllByRecursion (λ q. precedes p q ≡ true) ys
rise_behind [] p ys r = r.0
rise_behind (x ∷ xs) p ys r = rise_behind xs p ys r.1

not_less : (n m : ℕ) → m ≤ n → nat_lt n m ≡ false
not_less n m le = grind (arith, nat_tests)

-- of one sequence none precedes a lower one
pub not_before : (s : SequenceId) (n m : ℕ) → m ≤ n → precedes (record { sequence = s; number = n }) (record { sequence = s; number = m }) ≡ true → ⊥
not_before s n m le e = clash (sym e ∙ by (nat_lt s.ordinal s.ordinal) (nat_lt s.stamp s.stamp) (nat_lt n m) (s.ordinal == s.ordinal) (s.ordinal == s.ordinal && s.stamp == s.stamp)
    (not_less s.ordinal s.ordinal (omega arith)) (not_less s.stamp s.stamp (omega arith)) (not_less n m le))
  where
    by : (a b d : Bool) (e f : Bool) → a ≡ false → b ≡ false → d ≡ false → ((a || (e && b)) || (f && d)) ≡ false
    by a b d e f x y z = ap (λ t. (t || (e && b)) || (f && d)) x ∙ ap (λ t. (e && t) || (f && d)) y ∙ at e f d z
      where
        at : (e f d : Bool) → d ≡ false → ((e && false) || (f && d)) ≡ false
        at true true d z = z
        at true false d z = refl
        at false true d z = z
        at false false d z = refl

-- Lines of a kind.

pub joined_line : (l : Line) (j : Joined) → commitment_told l ≡ Some j → l ≡ line.Committed j.stream j.number j.id
joined_line (line.Committed stream number other) j e = ap (λ (x : Joined). line.Committed x.stream x.number x.id) (some_is _ j e)
joined_line l j e = absurd (none_some e)

-- the stream of a channel at a position
abbrev pub stream_at : Channel → Position → Stream
stream_at channel p = record { source = channel.source; destination = channel.destination; sequence = p.sequence }

placed : (channel : Channel) (stream : Stream) (number : ℕ) (p : Position) → place_in channel stream number ≡ Some p → (stream ≡ stream_at channel p) × (number ≡ p.number)
placed channel stream number p e = at (is_of channel stream) refl e
  where
    at : (b : Bool) → is_of channel stream ≡ b → cond b (Some (record { sequence = stream.sequence; number = number })) None ≡ Some p → (stream ≡ stream_at channel p) × (number ≡ p.number)
    at true f g = let both = split_and (same_guid stream.source channel.source) (same_name stream.destination channel.destination) f in let same = some_is _ p g in (
      ap (λ x. record { source = x; destination = stream.destination; sequence = stream.sequence }) (same_guid_is stream.source channel.source both.0)
          ∙ ap (λ x. record { source = channel.source; destination = x; sequence = stream.sequence }) (same_name_is stream.destination channel.destination both.1)
          ∙ ap (λ (q : Position). record { source = channel.source; destination = channel.destination; sequence = q.sequence }) same,
      ap (λ (q : Position). q.number) same,
    )
    at false f g = absurd (none_some g)

pub decision_is : (channel : Channel) (l : Line) (p : Position) → decision_told channel l ≡ Some p → (id : MessageId) × Decides (stream_at channel p) p.number id l
decision_is channel (line.Put stream number id) p e = let g = placed channel stream number p e in (id, inl (ap (λ s. line.Put s number id) g.0 ∙ ap (λ n. line.Put (stream_at channel p) n id) g.1))
decision_is channel (line.Refused stream number class id) p e = let g = placed channel stream number p e in
    (id, inr (class, ap (λ s. line.Refused s number class id) g.0 ∙ ap (λ n. line.Refused (stream_at channel p) n class id) g.1))
decision_is channel l p e = absurd (none_some e)

pub expiry_is : (l : Line) (p : Position) → expiry_told l ≡ Some p → (stream : Stream) × (id : MessageId) × (moment : ℕ) × (l ≡ line.Expired stream p.number id moment) × (stream.sequence ≡ p.sequence)
expiry_is (line.Expired stream number id moment) p e = let same = some_is _ p e in
    (stream, id, moment, ap (λ (q : Position). line.Expired stream q.number id moment) same, ap (λ (q : Position). q.sequence) same)
expiry_is l p e = absurd (none_some e)
