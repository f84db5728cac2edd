-- Connections by which alpha is asked.
use Rattle.std.proofs.Common.{◌≡◌, ◌≤◌, ◌<◌, ◌+◌, ℕ, List, [], ◌∷◌, ◌++◌, length, Err, None, Ok, Option, Some, refl, ap, ◌∙◌, arith, length-append}
use Rattle.std.specs.Prelude.{fold, unwrap_or}
use Rattle.std.proofs.lemmas.Bool.{ltb-true}
use Rattle.std.specs.List.{AllByRecursion}
use Rattle.mqb_fields.specs.declared.faults.HeadFault.{HeadFault}
use Rattle.mqb_fields.specs.declared.faults.HeadKind.TheVariants.{Version}
use Rattle.mqb_heads.specs.Base.{base_at}
use Rattle.mqb_heads.specs.declared.base.TheConstants.{MAX_PACKET}
use Rattle.mqb_packet.specs.Plain.{plain_spelling}
use Rattle.mqb_packet.proofs.Behind.{plain_length}
use Rattle.mqb_stream.specs.Cutting.{packet_size}
use Rattle.mqb_stream.specs.Framing.{Answer, Broken, next}
use Rattle.mqb_stream.proofs.Filling.{end_least, end_short}
use Rattle.mqb_serving.specs.declared.purpose.Purpose.TheVariants as purpose
use Rattle.mqb_model.specs.runs.Samples.{alpha, beta, manager_of}
use Rattle.mqb_serving.specs.Conversations.{Conversation, answered, bytes_of, closed, end_of_bytes, ended, holding, limited, no_bytes, opened, read_on}
use Rattle.mqb_serving.specs.Laws.{IsWritable, packet_heard}
use Rattle.mqb_serving.specs.Worked.{OneIsAsked, OneIsBad, OneIsCutOff, OneIsEarly, early, establish, first_bytes, other_version, parameters, question, two_records}
use Rattle.mqb_serving.specs.declared.faults.PeerFault.TheVariants as fault
use Rattle.mqb_serving.proofs.Filling.{limit_far, look_wants, wants_before}
use Rattle.mqb_serving.proofs.Hearing.{bytes_looked_at, packets_served}

abbrev begun : Conversation
begun = opened (two_records (manager_of alpha beta)) purpose.Serve 1000

question_writable : AllByRecursion IsWritable question
question_writable = (
  record { well_formed = tt; numbers = record { client = refl; server = refl; stamp = omega arith }; size = omega arith },
  (record { well_formed = tt; numbers = record { storage_time = omega arith; ack_time = omega arith; window = omega arith }; size = omega arith }, tt),
)

question_count : length (bytes_of question) ≡ 604
question_count =
    let first : length (plain_spelling (establish beta alpha 999)) ≡ 572 = plain_length (establish beta alpha 999) in
    let second : length (plain_spelling parameters) ≡ 32 = plain_length parameters in
    let rest : length (plain_spelling parameters ++ []) ≡ 32 = omega (arith, second, length-append (plain_spelling parameters) []) in
    let whole : length (bytes_of question) ≡ length (plain_spelling (establish beta alpha 999)) + length (plain_spelling parameters ++ []) =
    length-append (plain_spelling (establish beta alpha 999)) (plain_spelling parameters ++ []) in
    omega (arith, first, rest, whole)

pub one_is_asked : OneIsAsked
one_is_asked = let heard = packets_served (two_records (manager_of alpha beta)) purpose.Serve 1000 question question_writable (omega arith) in record {
  written = ap (λ (c : Conversation). bytes_of c.given) heard ∙ ap bytes_of given;
  count = question_count;
  end = ap (λ (c : Conversation). unwrap_or c.end (end_of_bytes c)) heard ∙ end;
  unlinked = ap (λ (c : Conversation). (closed c).stored.manager.rest.session) heard ∙ refl;
  records = ap (λ (c : Conversation). (closed c).stored.count) heard ∙ refl;
}
  where
    given : (fold packet_heard begun question).given ≡ question
    given = refl

    end : unwrap_or (fold packet_heard begun question).end (end_of_bytes (fold packet_heard begun question)) ≡ Ok tt
    end = refl

early_writable : AllByRecursion IsWritable early
early_writable = (
  record {
    well_formed = tt;
    numbers = record { ack = omega arith; stored = omega arith; stored_flags = omega arith; user = omega arith; recoverable = omega arith; window = omega arith };
    size = omega arith;
  },
  tt,
)

pub one_is_early : OneIsEarly
one_is_early = let heard = packets_served (two_records (manager_of alpha beta)) purpose.Serve 1000 early early_writable (omega arith) in record {
  written = ap (λ (c : Conversation). bytes_of c.given) heard ∙ refl;
  end = ap (λ (c : Conversation). unwrap_or c.end (end_of_bytes c)) heard ∙ refl;
}

first_looked_at : read_on begun first_bytes ≡ holding begun first_bytes
first_looked_at =
    let short = end_short MAX_PACKET first_bytes (ltb-true _ _ refl) in
    let count : length first_bytes ≡ 15 = refl in
    bytes_looked_at (two_records (manager_of alpha beta)) purpose.Serve 1000 first_bytes refl (omega (arith, count)) (omega (arith, count, short)) (omega (arith, count))
    ∙ look_wants (holding begun first_bytes) (wants_before (holding begun first_bytes).framing (omega (arith, count, short))) (ltb-true _ _ refl)

pub one_is_cut_off : OneIsCutOff
one_is_cut_off = record {
  written = ap (λ (c : Conversation). bytes_of c.given) first_looked_at ∙ refl;
  end = ap (λ (c : Conversation). unwrap_or c.end (end_of_bytes c)) first_looked_at ∙ refl;
}

abbrev version_fault : HeadFault
version_fault = record { at = 0; kind = Version }

broken : next (record no_bytes { held = other_version }) ≡ Broken version_fault 0
unfolding next packet_size base_at
broken = refl

other_looked_at : read_on begun other_version ≡ ended (Err (fault.Bad 0 version_fault)) (holding begun other_version)
other_looked_at =
    let count : length other_version ≡ 16 = refl in
    bytes_looked_at (two_records (manager_of alpha beta)) purpose.Serve 1000 other_version refl (omega (arith, count)) (omega (arith, count, end_least MAX_PACKET other_version)) (omega (arith, count))
    ∙ ap (λ (a : Answer). limited (answered a (holding begun other_version))) broken
    ∙ limit_far (ended (Err (fault.Bad 0 version_fault)) (holding begun other_version)) (ltb-true _ _ refl)

pub one_is_bad : OneIsBad
one_is_bad = record {
  written = ap (λ (c : Conversation). bytes_of c.given) other_looked_at ∙ refl;
  end = ap (λ (c : Conversation). unwrap_or c.end (end_of_bytes c)) other_looked_at ∙ refl;
}
