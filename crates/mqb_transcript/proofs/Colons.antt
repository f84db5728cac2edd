-- A colon stands in a flow's text behind the number of each packet, and nowhere else.
use Rattle.std.proofs.Common.{◌≡◌, ℕ, zero, suc, ◌/◌, ◌%◌, ◌<◌, Bool, true, false, ◌==◌, not, if◌then◌else◌, cond, List, [], ◌∷◌, ◌++◌, codes, find, unwrap_or, Option, Some, refl, arith}
use Rattle.std.specs.List.{list_all, flat_map}
use Rattle.std.specs.Option.{option_map}
use Rattle.std.specs.Fmt.{digit_glyph, digits_onto, digits, decimal}
use Rattle.std.proofs.lemmas.List.Folds.{list_all-append}
use Rattle.std.proofs.lemmas.Bool.Decides.{nat_tests}
use Rattle.uuid.specs.Text.{by_index, hex_digit as guid_digit, nibble, lower, hyphen, is_hyphen_place, digit_place}
use Rattle.uuid.proofs.TextLemmas.{nibble_small}
use Rattle.mqb_base.specs.declared.ids.Guid.{Guid}
use Rattle.mqb_base.specs.declared.ids.MessageId.{MessageId}
use Rattle.mqb_base.specs.declared.ids.SequenceId.{SequenceId}
use Rattle.mqb_base.specs.declared.ids.Identity.{Identity}
use Rattle.mqb_base.specs.declared.class.Class.{Class}
use Rattle.mqb_base.specs.declared.heard.Cause.{Cause}
use Rattle.mqb_base.specs.declared.heard.Cause.TheVariants.{Early, BadAck, Refused, Repeated, Foreign}
use Rattle.mqb_base.specs.declared.heard.Heard.{Heard}
use Rattle.mqb_base.specs.declared.heard.Heard.TheVariants as heard
use Rattle.mqb_base.specs.declared.ledger.Line.{Line}
use Rattle.mqb_base.specs.declared.ledger.Line.TheVariants as line
use Rattle.mqb_base.specs.Same.{same_guid}
use Rattle.mqb_names.specs.Printed.{printed_guid}
use Rattle.mqb_transcript.specs.declared.arrivals.Outcome.{Outcome}
use Rattle.mqb_transcript.specs.declared.arrivals.Outcome.TheVariants as outcome
use Rattle.mqb_transcript.specs.Texts.{spaced, manager_text, id_text, place_text, hex_digit, class_text, line_text, bracketed, lines_text, cause_text, heard_text, outcome_text}
use Rattle.mqb_transcript.specs.Told.{HaveNoColon}

abbrev pub lacks : List ℕ → Bool
lacks text = list_all (λ b. not (b == 58)) text

pub lacks-append : (a b : List ℕ) → lacks a ≡ true → lacks b ≡ true → lacks (a ++ b) ≡ true
lacks-append a b h k = rw (list_all-append (λ x. not (x == 58)) a b, h, k) refl

-- Numbers, classes and GUIDs.

glyph_lacks : (n : ℕ) → not (digit_glyph false (n % 10) == 58) ≡ true
glyph_lacks n = let small : n % 10 < 10 = omega arith in grind (arith, nat_tests)

choice_lacks : (test : Bool) (a b : List ℕ) → lacks a ≡ true → lacks b ≡ true → lacks (if test then a else b) ≡ true
choice_lacks true a b h k = h
choice_lacks false a b h k = k

digits_lack : (k n : ℕ) (acc : List ℕ) → lacks acc ≡ true → lacks (digits_onto k 10 false n acc) ≡ true
digits_lack zero n acc h = h
digits_lack (suc k) n acc h =
    let more : lacks (digit_glyph false (n % 10) ∷ acc) ≡ true = rw (glyph_lacks n, h) refl in
    choice_lacks (n / 10 == 0) (digit_glyph false (n % 10) ∷ acc) (digits_onto k 10 false (n / 10) (digit_glyph false (n % 10) ∷ acc)) more
    (digits_lack k (n / 10) (digit_glyph false (n % 10) ∷ acc) more)

pub decimal_lacks : (n : ℕ) → lacks (decimal n) ≡ true
unfolding digits
decimal_lacks n = digits_lack 64 n [] refl

hex_lacks : (n : ℕ) → not (hex_digit n == 58) ≡ true
hex_lacks n = grind (arith, nat_tests)

class_lacks : (class : Class) → lacks (class_text class) ≡ true
unfolding class_text
class_lacks class = rw (hex_lacks (class.0 / 4096), hex_lacks (class.0 / 256 % 16), hex_lacks (class.0 / 16 % 16), hex_lacks (class.0 % 16)) refl

guid_digit_lacks : (n : ℕ) → n < 16 → not (guid_digit lower n == 58) ≡ true
guid_digit_lacks n small = grind (arith, nat_tests)

by_index_lacks : (n : ℕ) (f : ℕ → ℕ) → ((k : ℕ) → not (f k == 58) ≡ true) → lacks (by_index n f) ≡ true
unfolding by_index
by_index_lacks zero f each = refl
by_index_lacks (suc n) f each = lacks-append (by_index n f) (f n ∷ []) (by_index_lacks n f each) (rw (each n) refl)

hyphen_lacks : (place : Bool) (digit : ℕ) → not (digit == 58) ≡ true → not ((if place then hyphen else digit) == 58) ≡ true
hyphen_lacks true digit h = refl
hyphen_lacks false digit h = h

guid_lacks : (guid : Guid) → lacks (printed_guid guid) ≡ true
guid_lacks guid =
    by_index_lacks 36 (λ k. if is_hyphen_place k then hyphen else guid_digit lower (nibble guid.0 (digit_place k)))
    (λ k. hyphen_lacks (is_hyphen_place k) (guid_digit lower (nibble guid.0 (digit_place k)))
    (guid_digit_lacks (nibble guid.0 (digit_place k)) (nibble_small guid.0 (digit_place k))))

-- Managers and identifiers.

host_choice : (test : Bool) (known : Identity) (rest : Option Identity) (guid : List ℕ) → lacks known.host ≡ true
    → lacks (unwrap_or (option_map (λ k. k.host) rest) guid) ≡ true
    → lacks (unwrap_or (option_map (λ k. k.host) (cond test (Some known) rest)) guid) ≡ true
host_choice true known rest guid h k = h
host_choice false known rest guid h k = k

manager_lacks : (hosts : List Identity) (guid : Guid) → HaveNoColon hosts → lacks (manager_text hosts guid) ≡ true
unfolding manager_text
manager_lacks [] guid none = guid_lacks guid
manager_lacks (known ∷ hosts) guid none =
    host_choice (same_guid known.guid guid) known (find (λ k. same_guid k.guid guid) hosts) (printed_guid guid) none.0 (manager_lacks hosts guid none.1)

id_lacks : (hosts : List Identity) (id : MessageId) → HaveNoColon hosts → lacks (id_text hosts id) ≡ true
unfolding id_text
id_lacks hosts id none =
    lacks-append (manager_text hosts id.qm ++ codes ".") (decimal id.number)
    (lacks-append (manager_text hosts id.qm) (codes ".") (manager_lacks hosts id.qm none) refl) (decimal_lacks id.number)

place_lacks : (sequence : SequenceId) (number : ℕ) → lacks (place_text sequence number) ≡ true
unfolding place_text
place_lacks sequence number = lacks-append (decimal sequence.ordinal) (spaced (decimal number)) (decimal_lacks sequence.ordinal) (decimal_lacks number)

-- Ledger lines: words without a colon, and what stands behind them.

placed_lacks : (hosts : List Identity) (word : List ℕ) (sequence : SequenceId) (number : ℕ) (id : MessageId) → HaveNoColon hosts → lacks word ≡ true
    → lacks (word ++ place_text sequence number ++ spaced (id_text hosts id)) ≡ true
placed_lacks hosts word sequence number id none h =
    lacks-append (word ++ place_text sequence number) (spaced (id_text hosts id))
    (lacks-append word (place_text sequence number) h (place_lacks sequence number)) (id_lacks hosts id none)

about_lacks : (hosts : List Identity) (word : List ℕ) (id : MessageId) → HaveNoColon hosts → lacks word ≡ true
    → lacks (word ++ id_text hosts id) ≡ true
about_lacks hosts word id none h = lacks-append word (id_text hosts id) h (id_lacks hosts id none)

classed_lacks : (hosts : List Identity) (word : List ℕ) (class : Class) (id : MessageId) → HaveNoColon hosts → lacks word ≡ true
    → lacks (word ++ class_text class ++ spaced (id_text hosts id)) ≡ true
classed_lacks hosts word class id none h =
    lacks-append (word ++ class_text class) (spaced (id_text hosts id)) (lacks-append word (class_text class) h (class_lacks class))
    (id_lacks hosts id none)

refused_lacks : (hosts : List Identity) (sequence : SequenceId) (number : ℕ) (class : Class) (id : MessageId) → HaveNoColon hosts
    → lacks (codes "refused " ++ place_text sequence number ++ spaced (class_text class) ++ spaced (id_text hosts id)) ≡ true
refused_lacks hosts sequence number class id none =
    lacks-append (codes "refused " ++ place_text sequence number ++ spaced (class_text class)) (spaced (id_text hosts id))
    (lacks-append (codes "refused " ++ place_text sequence number) (spaced (class_text class))
    (lacks-append (codes "refused ") (place_text sequence number) refl (place_lacks sequence number)) (class_lacks class))
    (id_lacks hosts id none)

line_lacks : (hosts : List Identity) (l : Line) → HaveNoColon hosts → lacks (line_text hosts l) ≡ true
unfolding line_text
line_lacks hosts (line.Committed stream number id) none = placed_lacks hosts (codes "committed ") stream.sequence number id none refl
line_lacks hosts (line.Expired stream number id moment) none = placed_lacks hosts (codes "expired ") stream.sequence number id none refl
line_lacks hosts (line.Put stream number id) none = placed_lacks hosts (codes "put ") stream.sequence number id none refl
line_lacks hosts (line.Refused stream number class id) none = refused_lacks hosts stream.sequence number class id none
line_lacks hosts (line.Local id) none = about_lacks hosts (codes "local ") id none refl
line_lacks hosts (line.Stored id) none = about_lacks hosts (codes "stored ") id none refl
line_lacks hosts (line.Bounced class id) none = classed_lacks hosts (codes "bounced ") class id none refl
line_lacks hosts (line.Released id) none = about_lacks hosts (codes "released ") id none refl
line_lacks hosts (line.Took id) none = about_lacks hosts (codes "took ") id none refl
line_lacks hosts (line.Emptied id) none = about_lacks hosts (codes "emptied ") id none refl
line_lacks hosts (line.Purged id) none = about_lacks hosts (codes "purged ") id none refl
line_lacks hosts (line.Lapsed id) none = about_lacks hosts (codes "lapsed ") id none refl
line_lacks hosts (line.Swept id) none = about_lacks hosts (codes "swept ") id none refl

bracketed_lacks : (hosts : List Identity) (l : Line) → HaveNoColon hosts → lacks (bracketed hosts l) ≡ true
unfolding bracketed
bracketed_lacks hosts l none =
    lacks-append (codes " [" ++ line_text hosts l) (codes "]") (lacks-append (codes " [") (line_text hosts l) refl (line_lacks hosts l none)) refl

lines_lack : (hosts : List Identity) (lines : List Line) → HaveNoColon hosts → lacks (lines_text hosts lines) ≡ true
unfolding lines_text
lines_lack hosts [] none = refl
lines_lack hosts (l ∷ lines) none =
    lacks-append (bracketed hosts l) (flat_map (bracketed hosts) lines) (bracketed_lacks hosts l none) (lines_lack hosts lines none)

-- What was heard.

cause_lacks : (cause : Cause) → lacks (cause_text cause) ≡ true
unfolding cause_text
cause_lacks Early = refl
cause_lacks BadAck = refl
cause_lacks Refused = refl
cause_lacks Repeated = refl
cause_lacks Foreign = refl

heard_lacks : (hosts : List Identity) (h : Heard) → HaveNoColon hosts → lacks (heard_text hosts h) ≡ true
unfolding heard_text
heard_lacks hosts heard.SetUp none = refl
heard_lacks hosts heard.Session none = refl
heard_lacks hosts (heard.Put sequence number) none = refl
heard_lacks hosts (heard.Refused sequence number class) none = lacks-append (codes "refused ") (class_text class) refl (class_lacks class)
heard_lacks hosts (heard.Duplicate sequence number) none =
    lacks-append (codes "duplicate ") (place_text sequence number) refl (place_lacks sequence number)
heard_lacks hosts (heard.Gap sequence number) none = lacks-append (codes "gap ") (place_text sequence number) refl (place_lacks sequence number)
heard_lacks hosts (heard.Stale sequence number) none = lacks-append (codes "stale ") (place_text sequence number) refl (place_lacks sequence number)
heard_lacks hosts heard.Stored none = refl
heard_lacks hosts (heard.Bounced class) none = lacks-append (codes "bounced ") (class_text class) refl (class_lacks class)
heard_lacks hosts (heard.ExpressPut id) none = about_lacks hosts (codes "express ") id none refl
heard_lacks hosts (heard.ExpressBounced class id) none = classed_lacks hosts (codes "expressbounced ") class id none refl
heard_lacks hosts (heard.OrderAcked ordinal number) none =
    lacks-append (codes "acked " ++ decimal ordinal) (spaced (decimal number)) (lacks-append (codes "acked ") (decimal ordinal) refl (decimal_lacks ordinal))
    (decimal_lacks number)
heard_lacks hosts heard.OldAck none = refl
heard_lacks hosts (heard.Final id class) none = classed_lacks hosts (codes "final ") class id none refl
heard_lacks hosts heard.Discarded none = refl
heard_lacks hosts (heard.Closed cause) none = lacks-append (codes "closed ") (cause_text cause) refl (cause_lacks cause)

pub outcome_lacks : (hosts : List Identity) (o : Outcome) → HaveNoColon hosts → lacks (outcome_text hosts o) ≡ true
unfolding outcome_text
outcome_lacks hosts (outcome.Heard h lines) none =
    lacks-append (heard_text hosts h) (lines_text hosts lines) (heard_lacks hosts h none) (lines_lack hosts lines none)
outcome_lacks hosts outcome.Gone none = refl
outcome_lacks hosts outcome.Stopped none = refl
outcome_lacks hosts outcome.Failed none = refl
