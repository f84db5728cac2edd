-- Of no bytes two answers are said.
use Rattle.std.proofs.Common.{◌≡◌, ◌<◌, ◌≤◌, ℕ, ◌-◌, true, List, [], ◌∷◌, ◌++◌, length, take, Result, Ok, Err, nat_lt, refl, sym, ap, subst, ◌∙◌, arith, le_of_lt, length-drop, append-nil}
use Rattle.std.specs.Prelude.{count_by}
use Rattle.std.proofs.lemmas.Bool.{lt-ltb}
use Rattle.std.proofs.lemmas.List.{take_all}
use Rattle.mqb_fields.specs.Reading.{Reading, rest_of}
use Rattle.mqb_capture.specs.declared.answers.BreakCause.{BreakCause}
use Rattle.mqb_capture.specs.declared.answers.BreakCause.TheVariants as cause
use Rattle.mqb_capture.specs.declared.answers.InspectFault.{InspectFault}
use Rattle.mqb_capture.specs.declared.answers.InspectFault.TheVariants as fault
use Rattle.mqb_capture.specs.declared.answers.TheConstants.{MAX_CAPTURE}
use Rattle.mqb_capture.specs.declared.answers.Verdict.{Verdict}
use Rattle.mqb_capture.specs.declared.answers.Verdict.TheVariants as verdict
use Rattle.mqb_capture.specs.Grammar.{ArePieces, Begins, Head, Piece, head_at, piece_at}
use Rattle.mqb_capture.specs.Events.{Event, watched}
use Rattle.mqb_capture.specs.Lawful.{AreLawful, IsLawful, NothingIsLeft}
use Rattle.mqb_capture.specs.Breaks.{BreaksAt}
use Rattle.mqb_capture.specs.Verdicts.{Breaks, IsCut, IsLawfulUpTo, IsNoCapture, NoHead, NoPiece, Says, is_heard, is_sent}
use Rattle.mqb_capture.specs.Laws.{IsOfBytes}
use Rattle.mqb_capture.proofs.Causes.{breaks_longer, breaks_once, not_lawful}
use Rattle.mqb_capture.proofs.Growing.{Fronts, Longer, Shorter, events_grow, one_way}

-- Readings.

abbrev pub start : List ℕ → Reading
start bytes = record { bytes = bytes; at = 0 }

abbrev as_head : Head × Reading → Result (Head × Reading) ℕ
as_head t = Ok t

abbrev no_head : ℕ → Result (Head × Reading) ℕ
no_head at = Err at

abbrev as_piece : Piece × Reading → Result (Piece × Reading) ℕ
as_piece t = Ok t

abbrev pub no_piece : ℕ → Result (Piece × Reading) ℕ
no_piece at = Err at

same_head : (t u : Head × Reading) → as_head t ≡ as_head u → t ≡ u
same_head t u e = cc

head_apart : (t : Head × Reading) (at : ℕ) → as_head t ≡ no_head at → ⊥
head_apart t at e = cc

same_place : (a b : ℕ) → no_head a ≡ no_head b → a ≡ b
same_place a b e = cc

pub same_stop : (a b : ℕ) → no_piece a ≡ no_piece b → a ≡ b
same_stop a b e = cc

piece_apart : (t : Piece × Reading) (at : ℕ) → as_piece t ≡ no_piece at → ⊥
piece_apart t at e = cc

-- where nothing is left, no piece stands
pub no_more : (r : Reading) → rest_of r ≡ [] → piece_at r ≡ Err (length r.bytes)
unfolding piece_at
no_more r e =
    let none : length (rest_of r) ≡ 0 = ap length e in
    let short : nat_lt (length r.bytes - r.at) 1 ≡ true = lt-ltb (length r.bytes - r.at) 1 (omega (arith, none, length-drop r.at r.bytes)) in
    rw short

-- where no piece stands, no pieces begin
none_stand : (pieces : List Piece) (r end : Reading) (at : ℕ) → piece_at r ≡ Err at → ArePieces pieces r end → (pieces ≡ []) × (r ≡ end)
none_stand [] r end at stop are = (refl, are)
none_stand (p ∷ pieces) r end at stop are = absurd (piece_apart (p, are.0) at (sym are.1 ∙ stop))

-- Two beginnings of the same bytes.

begins_from : (bytes : List ℕ) (h g : Head) (ps qs : List Piece) (a b : Reading) → Begins bytes h ps a → Begins bytes g qs b → (h ≡ g) × Fronts ps a qs b
begins_from bytes h g ps qs a b x y =
    let both : (h, x.behind) ≡ (g, y.behind) = same_head (h, x.behind) (g, y.behind) (sym x.is_head ∙ y.is_head) in (
      ap (λ (t : Head × Reading). t.0) both,
      one_way ps qs y.behind a b (subst (λ (t : Reading). ArePieces ps t a) (ap (λ (t : Head × Reading). t.1) both) x.are_pieces) y.are_pieces,
    )

-- What is lawful up to where no piece stands is one.

pub record Same (bytes : List ℕ) (a b : ℕ) (u : IsLawfulUpTo bytes a) (v : IsLawfulUpTo bytes b) : Type 0 where
  pub pieces : u.pieces ≡ v.pieces
  pub end : u.end ≡ v.end
  pub at : a ≡ b

same_by : (bytes : List ℕ) (a b : ℕ) (u : IsLawfulUpTo bytes a) (v : IsLawfulUpTo bytes b) → u.pieces ≡ v.pieces → u.end ≡ v.end → Same bytes a b u v
same_by bytes a b u v pieces end = record { pieces = pieces; end = end; at = same_stop a b (sym u.stops ∙ ap piece_at end ∙ v.stops) }

by_fronts : (bytes : List ℕ) (a b : ℕ) (u : IsLawfulUpTo bytes a) (v : IsLawfulUpTo bytes b) → Fronts u.pieces u.end v.pieces v.end → Same bytes a b u v
by_fronts bytes a b u v (Shorter more is are) =
    let none = none_stand more u.end v.end a u.stops are in
    same_by bytes a b u v (sym (is ∙ ap (λ (ps : List Piece). u.pieces ++ ps) none.0 ∙ append-nil u.pieces)) none.1
by_fronts bytes a b u v (Longer more is are) =
    let none = none_stand more v.end u.end b v.stops are in
    same_by bytes a b u v (is ∙ ap (λ (ps : List Piece). v.pieces ++ ps) none.0 ∙ append-nil v.pieces) (sym none.1)

pub up_to_once : (bytes : List ℕ) (a b : ℕ) (u : IsLawfulUpTo bytes a) (v : IsLawfulUpTo bytes b) → Same bytes a b u v
up_to_once bytes a b u v = by_fronts bytes a b u v (begins_from bytes u.head v.head u.pieces v.pieces u.end v.end u.begins v.begins).1

-- Nothing breaks it.

abbrev events_of : List Piece → List Event
events_of pieces = (watched pieces).events

-- a break among the first pieces is one among all
break_more : (h : Head) (ps qs more : List Piece) (i : ℕ) (why : BreakCause) → qs ≡ ps ++ more → BreaksAt h (events_of ps) i why → BreaksAt h (events_of qs) i why
break_more h ps qs more i why is b =
    let grow = events_grow ps more in
    subst (λ (es : List Event). BreaksAt h es i why) (sym (ap events_of is ∙ grow.1)) (breaks_longer h (events_of ps) grow.0 i why b)

nothing_breaks : (h : Head) (events : List Event) (i : ℕ) (why : BreakCause) → BreaksAt h events i why → AreLawful h events → ⊥
nothing_breaks h events i why b lawful = not_lawful h events [] i why b (subst (AreLawful h) (sym (append-nil events)) lawful)

lawful_less : (h : Head) (ps qs more : List Piece) (i : ℕ) (why : BreakCause) → ps ≡ qs ++ more → BreaksAt h (events_of qs) i why → AreLawful h (events_of ps) → ⊥
lawful_less h ps qs more i why is b lawful = nothing_breaks h (events_of ps) i why (break_more h qs ps more i why is b) lawful

broken_apart : (bytes : List ℕ) (a i : ℕ) (why : BreakCause) (u : IsLawfulUpTo bytes a) (b : Breaks bytes i why) → Fronts u.pieces u.end b.pieces b.end → BreaksAt u.head (events_of b.pieces) i why → ⊥
broken_apart bytes a i why u b (Longer more is are) breaks = lawful_less u.head u.pieces b.pieces more i why is breaks u.lawful
broken_apart bytes a i why u b (Shorter more is are) breaks =
    let none = none_stand more u.end b.end a u.stops are in
    let same : b.pieces ≡ u.pieces = is ∙ ap (λ (ps : List Piece). u.pieces ++ ps) none.0 ∙ append-nil u.pieces in
    nothing_breaks u.head (events_of u.pieces) i why (subst (λ (ps : List Piece). BreaksAt u.head (events_of ps) i why) same breaks) u.lawful

pub lawful_or_broken : (bytes : List ℕ) (a i : ℕ) (why : BreakCause) → IsLawfulUpTo bytes a → Breaks bytes i why → ⊥
lawful_or_broken bytes a i why u b =
    let from = begins_from bytes u.head b.head u.pieces b.pieces u.end b.end u.begins b.begins in
    broken_apart bytes a i why u b from.1 (subst (λ (h : Head). BreaksAt h (events_of b.pieces) i why) (sym from.0) b.breaks)

once_by : (h : Head) (ps qs : List Piece) (a b : Reading) (i j : ℕ) (why other : BreakCause) → Fronts ps a qs b → BreaksAt h (events_of ps) i why → BreaksAt h (events_of qs) j other → (i ≡ j) × (why ≡ other)
once_by h ps qs a b i j why other (Shorter more is are) x y = breaks_once h (events_of qs) i j why other (break_more h ps qs more i why is x) y
once_by h ps qs a b i j why other (Longer more is are) x y = breaks_once h (events_of ps) i j why other x (break_more h qs ps more j other is y)

pub broken_once : (bytes : List ℕ) (i j : ℕ) (why other : BreakCause) → Breaks bytes i why → Breaks bytes j other → (i ≡ j) × (why ≡ other)
broken_once bytes i j why other x y =
    let from = begins_from bytes x.head y.head x.pieces y.pieces x.end y.end x.begins y.begins in
    once_by y.head x.pieces y.pieces x.end y.end i j why other from.1 (subst (λ (h : Head). BreaksAt h (events_of x.pieces) i why) from.0 x.breaks) y.breaks

begins_apart : (bytes : List ℕ) (h : Head) (ps : List Piece) (end : Reading) (at : ℕ) → head_at (start bytes) ≡ Err at → Begins bytes h ps end → ⊥
begins_apart bytes h ps end at none b = head_apart (h, b.behind) at (sym b.is_head ∙ none)

-- The kinds of answers.

abbrev pub looked : List ℕ → List ℕ
looked bytes = take MAX_CAPTURE bytes

abbrev lawful_answer : ℕ → ℕ → Result Verdict InspectFault
lawful_answer sent heard = Ok (verdict.Lawful sent heard)

abbrev broken_answer : ℕ → BreakCause → Result Verdict InspectFault
broken_answer i why = Ok (verdict.Broken i why)

abbrev none_answer : ℕ → Result Verdict InspectFault
none_answer at = Err (fault.Capture at)

abbrev good : List Event → Result Verdict InspectFault
good events = Ok (verdict.Lawful (count_by is_sent events) (count_by is_heard events))

abbrev cut : List Event → Result Verdict InspectFault
cut events = Ok (verdict.Broken (length events) cause.Cut)

data Kind (bytes : List ℕ) (x : Result Verdict InspectFault) : Type 0 where
  IsGood : (short : length bytes < MAX_CAPTURE) (a : ℕ) (u : IsLawfulUpTo (looked bytes) a) → rest_of u.end ≡ [] → NothingIsLeft (watched u.pieces)
      → x ≡ good (events_of u.pieces) → Kind bytes x
  IsRest : (short : length bytes < MAX_CAPTURE) (a : ℕ) (u : IsLawfulUpTo (looked bytes) a) → rest_of u.end ≡ [] → (NothingIsLeft (watched u.pieces) → ⊥)
      → x ≡ cut (events_of u.pieces) → Kind bytes x
  IsBroken : (i : ℕ) (why : BreakCause) → Breaks (looked bytes) i why → x ≡ Ok (verdict.Broken i why) → Kind bytes x
  HasNoHead : (at : ℕ) → head_at (start (looked bytes)) ≡ Err at → x ≡ Err (fault.Capture at) → Kind bytes x
  HasNoPiece : (at : ℕ) (u : IsLawfulUpTo (looked bytes) at) → at < MAX_CAPTURE → (rest_of u.end ≡ [] → ⊥) → x ≡ Err (fault.Capture at) → Kind bytes x
  IsLong : MAX_CAPTURE ≤ length bytes → IsLawfulUpTo (looked bytes) MAX_CAPTURE → x ≡ Err fault.TooMuch → Kind bytes x

all_looked : (bytes : List ℕ) → length bytes < MAX_CAPTURE → bytes ≡ looked bytes
all_looked bytes short = sym (take_all MAX_CAPTURE bytes (le_of_lt short))

-- bytes that are lawful up to their end, without the question which of them are looked at
pub record Ends (bytes : List ℕ) (left : Type 0 → Type 0) (x : List Event → Result Verdict InspectFault) (answer : Result Verdict InspectFault) : Type 0 where
  pub at : ℕ
  pub up : IsLawfulUpTo bytes at
  pub whole : rest_of up.end ≡ []
  pub rest : left (NothingIsLeft (watched up.pieces))
  pub is : answer ≡ x (events_of up.pieces)

abbrev yes_ : Type 0 → Type 0
yes_ t = t

abbrev not_ : Type 0 → Type 0
not_ t = t → ⊥

good_ends : (bytes : List ℕ) (sent heard : ℕ) → Says bytes (Ok (verdict.Lawful sent heard)) → Ends bytes yes_ good (Ok (verdict.Lawful sent heard))
good_ends bytes sent heard s =
    let l : IsLawful bytes = s.1 in
    record {
      at = length l.end.bytes;
      up = record { head = l.head; pieces = l.pieces; end = l.end; begins = l.begins; stops = no_more l.end l.whole; lawful = l.lawful };
      whole = l.whole;
      rest = l.cut;
      is = same_counts sent heard (count_by is_sent (events_of l.pieces)) (count_by is_heard (events_of l.pieces)) s.2 s.3;
    }
  where
    same_counts : (a b c d : ℕ) → a ≡ c → b ≡ d → lawful_answer a b ≡ lawful_answer c d
    same_counts a b c d e f = cc

cut_ends : (bytes : List ℕ) (i : ℕ) → IsCut bytes i → Ends bytes not_ cut (Ok (verdict.Broken i cause.Cut))
cut_ends bytes i c = record { at = length bytes; up = c.up_to; whole = c.whole; rest = c.left; is = ap (λ (n : ℕ). broken_answer n cause.Cut) c.at }

good_kind : (bytes : List ℕ) (x : Result Verdict InspectFault) → length bytes < MAX_CAPTURE → Ends (looked bytes) yes_ good x → Kind bytes x
good_kind bytes x short e = IsGood short e.at e.up e.whole e.rest e.is

cut_kind : (bytes : List ℕ) (x : Result Verdict InspectFault) → length bytes < MAX_CAPTURE → Ends (looked bytes) not_ cut x → Kind bytes x
cut_kind bytes x short e = IsRest short e.at e.up e.whole e.rest e.is

none_kind : (bytes : List ℕ) (at : ℕ) → IsNoCapture (looked bytes) at → Kind bytes (Err (fault.Capture at))
none_kind bytes at (NoHead none) = HasNoHead at none refl
none_kind bytes at (NoPiece u whole less) = HasNoPiece at u less whole refl

kind_of : (bytes : List ℕ) (x : Result Verdict InspectFault) → IsOfBytes x → Says bytes x → Kind bytes x
kind_of bytes (Ok (verdict.Lawful sent heard)) is s =
    good_kind bytes (Ok (verdict.Lawful sent heard)) s.0 (subst (λ (t : List ℕ). Ends t yes_ good (Ok (verdict.Lawful sent heard))) (all_looked bytes s.0) (good_ends bytes sent heard s))
kind_of bytes (Ok (verdict.Broken i cause.Cut)) is s =
    cut_kind bytes (Ok (verdict.Broken i cause.Cut)) s.0 (subst (λ (t : List ℕ). Ends t not_ cut (Ok (verdict.Broken i cause.Cut))) (all_looked bytes s.0) (cut_ends bytes i s.1))
kind_of bytes (Ok (verdict.Broken i (cause.Bad why))) is s = IsBroken i (cause.Bad why) s refl
kind_of bytes (Ok (verdict.Broken i cause.Origin)) is s = IsBroken i cause.Origin s refl
kind_of bytes (Ok (verdict.Broken i cause.Phase)) is s = IsBroken i cause.Phase s refl
kind_of bytes (Ok (verdict.Broken i cause.Window)) is s = IsBroken i cause.Window s refl
kind_of bytes (Ok (verdict.Broken i cause.Stamp)) is s = IsBroken i cause.Stamp s refl
kind_of bytes (Ok (verdict.Broken i (cause.Closed why))) is s = IsBroken i (cause.Closed why) s refl
kind_of bytes (Ok (verdict.Broken i cause.Link)) is s = IsBroken i cause.Link s refl
kind_of bytes (Err (fault.Capture at)) is s = none_kind bytes at s
kind_of bytes (Err fault.TooMuch) is s = IsLong s.0 s.1 refl
kind_of bytes (Err fault.ReadFault) is s = absurd is
kind_of bytes (Err fault.Memory) is s = absurd is

-- Two kinds of one list of bytes.

left_apart : (bytes : List ℕ) (a b : ℕ) (u : IsLawfulUpTo (looked bytes) a) (v : IsLawfulUpTo (looked bytes) b) → NothingIsLeft (watched u.pieces) → (NothingIsLeft (watched v.pieces) → ⊥) → ⊥
left_apart bytes a b u v none some = some (subst (λ (ps : List Piece). NothingIsLeft (watched ps)) (up_to_once (looked bytes) a b u v).pieces none)

whole_apart : (bytes : List ℕ) (a b : ℕ) (u : IsLawfulUpTo (looked bytes) a) (v : IsLawfulUpTo (looked bytes) b) → rest_of u.end ≡ [] → (rest_of v.end ≡ [] → ⊥) → ⊥
whole_apart bytes a b u v none some = some (ap rest_of (sym (up_to_once (looked bytes) a b u v).end) ∙ none)

less_apart : (bytes : List ℕ) (a : ℕ) (u : IsLawfulUpTo (looked bytes) a) (v : IsLawfulUpTo (looked bytes) MAX_CAPTURE) → a < MAX_CAPTURE → ⊥
less_apart bytes a u v less = omega (arith, less, (up_to_once (looked bytes) a MAX_CAPTURE u v).at)

length_apart : (n : ℕ) → n < MAX_CAPTURE → MAX_CAPTURE ≤ n → ⊥
length_apart n less more = omega (arith, less, more)

answers_once : (bytes : List ℕ) (x y : Result Verdict InspectFault) → Kind bytes x → Kind bytes y → x ≡ y
answers_once bytes x y (IsGood short a u whole none is) (IsGood short' b v whole' none' is') =
    is ∙ ap (λ (ps : List Piece). good (events_of ps)) (up_to_once (looked bytes) a b u v).pieces ∙ sym is'
answers_once bytes x y (IsGood short a u whole none is) (IsRest short' b v whole' some is') = absurd (left_apart bytes a b u v none some)
answers_once bytes x y (IsGood short a u whole none is) (IsBroken i why b is') = absurd (lawful_or_broken (looked bytes) a i why u b)
answers_once bytes x y (IsGood short a u whole clean is) (HasNoHead at none is') = absurd (begins_apart (looked bytes) u.head u.pieces u.end at none u.begins)
answers_once bytes x y (IsGood short a u whole none is) (HasNoPiece at v less some is') = absurd (whole_apart bytes a at u v whole some)
answers_once bytes x y (IsGood short a u whole none is) (IsLong long v is') = absurd (length_apart (length bytes) short long)
answers_once bytes x y (IsRest short a u whole some is) (IsRest short' b v whole' some' is') =
    is ∙ ap (λ (ps : List Piece). cut (events_of ps)) (up_to_once (looked bytes) a b u v).pieces ∙ sym is'
answers_once bytes x y (IsRest short a u whole some is) (IsGood short' b v whole' none is') = absurd (left_apart bytes b a v u none some)
answers_once bytes x y (IsRest short a u whole some is) (IsBroken i why b is') = absurd (lawful_or_broken (looked bytes) a i why u b)
answers_once bytes x y (IsRest short a u whole some is) (HasNoHead at none is') = absurd (begins_apart (looked bytes) u.head u.pieces u.end at none u.begins)
answers_once bytes x y (IsRest short a u whole some is) (HasNoPiece at v less some' is') = absurd (whole_apart bytes a at u v whole some')
answers_once bytes x y (IsRest short a u whole some is) (IsLong long v is') = absurd (length_apart (length bytes) short long)
answers_once bytes x y (IsBroken i why b is) (IsBroken j other c is') =
    let one = broken_once (looked bytes) i j why other b c in
    is ∙ ap (λ (n : ℕ). broken_answer n why) one.0 ∙ ap (λ (w : BreakCause). broken_answer j w) one.1 ∙ sym is'
answers_once bytes x y (IsBroken i why b is) (IsGood short a u whole none is') = absurd (lawful_or_broken (looked bytes) a i why u b)
answers_once bytes x y (IsBroken i why b is) (IsRest short a u whole some is') = absurd (lawful_or_broken (looked bytes) a i why u b)
answers_once bytes x y (IsBroken i why b is) (HasNoHead at none is') = absurd (begins_apart (looked bytes) b.head b.pieces b.end at none b.begins)
answers_once bytes x y (IsBroken i why b is) (HasNoPiece at v less some is') = absurd (lawful_or_broken (looked bytes) at i why v b)
answers_once bytes x y (IsBroken i why b is) (IsLong long v is') = absurd (lawful_or_broken (looked bytes) MAX_CAPTURE i why v b)
answers_once bytes x y (HasNoHead at none is) (HasNoHead place none' is') = is ∙ ap (λ (n : ℕ). none_answer n) (same_place at place (sym none ∙ none')) ∙ sym is'
answers_once bytes x y (HasNoHead at none is) (IsGood short a u whole clean is') = absurd (begins_apart (looked bytes) u.head u.pieces u.end at none u.begins)
answers_once bytes x y (HasNoHead at none is) (IsRest short a u whole some is') = absurd (begins_apart (looked bytes) u.head u.pieces u.end at none u.begins)
answers_once bytes x y (HasNoHead at none is) (IsBroken i why b is') = absurd (begins_apart (looked bytes) b.head b.pieces b.end at none b.begins)
answers_once bytes x y (HasNoHead at none is) (HasNoPiece place v less some is') = absurd (begins_apart (looked bytes) v.head v.pieces v.end at none v.begins)
answers_once bytes x y (HasNoHead at none is) (IsLong long v is') = absurd (begins_apart (looked bytes) v.head v.pieces v.end at none v.begins)
answers_once bytes x y (HasNoPiece at u less some is) (HasNoPiece place v less' some' is') =
    is ∙ ap (λ (n : ℕ). none_answer n) (up_to_once (looked bytes) at place u v).at ∙ sym is'
answers_once bytes x y (HasNoPiece at u less some is) (IsGood short a v whole none is') = absurd (whole_apart bytes a at v u whole some)
answers_once bytes x y (HasNoPiece at u less some is) (IsRest short a v whole some' is') = absurd (whole_apart bytes a at v u whole some)
answers_once bytes x y (HasNoPiece at u less some is) (IsBroken i why b is') = absurd (lawful_or_broken (looked bytes) at i why u b)
answers_once bytes x y (HasNoPiece at u less some is) (HasNoHead place none is') = absurd (begins_apart (looked bytes) u.head u.pieces u.end place none u.begins)
answers_once bytes x y (HasNoPiece at u less some is) (IsLong long v is') = absurd (less_apart bytes at u v less)
answers_once bytes x y (IsLong long u is) (IsLong long' v is') = is ∙ sym is'
answers_once bytes x y (IsLong long u is) (IsGood short a v whole none is') = absurd (length_apart (length bytes) short long)
answers_once bytes x y (IsLong long u is) (IsRest short a v whole some is') = absurd (length_apart (length bytes) short long)
answers_once bytes x y (IsLong long u is) (IsBroken i why b is') = absurd (lawful_or_broken (looked bytes) MAX_CAPTURE i why u b)
answers_once bytes x y (IsLong long u is) (HasNoHead at none is') = absurd (begins_apart (looked bytes) u.head u.pieces u.end at none u.begins)
answers_once bytes x y (IsLong long u is) (HasNoPiece at v less some is') = absurd (less_apart bytes at v u less)

pub says_one : (bytes : List ℕ) (x y : Result Verdict InspectFault) → IsOfBytes x → IsOfBytes y → Says bytes x → Says bytes y → x ≡ y
says_one bytes x y is also s t = answers_once bytes x y (kind_of bytes x is s) (kind_of bytes y also t)
