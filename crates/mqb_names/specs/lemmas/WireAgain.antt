-- A wire form that is written is read again, whatever follows.
use Rattle.std.proofs.Common.{◌≡◌, ℕ, true, false, ltb, List, [], ◌∷◌, ◌++◌, length, Option, Some}
use Rattle.std.proofs.Common.{Ok, refl, sym, ap, ◌∙◌, arith, length-append}
use Rattle.std.proofs.lemmas.Bool.{le-ltb, lt-ltb}
use Rattle.std.proofs.lemmas.List.{take_at, append-nil}
use Rattle.mqb_base.specs.declared.queue_names.Host.{Host}
use Rattle.mqb_base.specs.declared.queue_names.QueueName.{QueueName}
use Rattle.mqb_base.specs.declared.queue_names.QueueName.TheVariants.{Public, Private}
use Rattle.mqb_base.specs.declared.queue_names.QueueName.TheVariants.{Direct, Machine}
use Rattle.mqb_base.specs.QueueNames.{names_queue}
use Rattle.mqb_fields.specs.Reading.{rest_of, number_of}
use Rattle.mqb_fields.specs.Writing.{bytes_of}
use Rattle.mqb_fields.specs.lemmas.Again.{swapped_twice, number_back}
use Rattle.mqb_names.specs.Printed.{printed_direct}
use Rattle.mqb_names.specs.Wire.{start, units, text_of, kind_of, wire, length_at, direct_of}
use Rattle.mqb_names.specs.Wire.{spelled, wire_at}
use Rattle.mqb_names.specs.Values.{IsName, IsHost, IsQueueName}
use Rattle.mqb_names.specs.lemmas.Again.{rest_again}
use Rattle.mqb_names.specs.lemmas.DirectAgain.{direct_again, Ascii, direct_ascii, direct_most}
use Rattle.mqb_names.specs.lemmas.Lengths.{counted_few}
use Rattle.mqb_names.specs.lemmas.Units.{length_units, length_direct}

abbrev public_of : List ℕ → Option QueueName
public_of bytes = Some (Public (record { 0 = bytes }) false)

abbrev private_of : List ℕ → ℕ → Option QueueName
private_of bytes number = Some (Private (record { 0 = bytes }) number false)

pub text_again : (text : List ℕ) → Ascii text → text_of (units text) ≡ Some text
text_again [] ascii = refl
text_again (b ∷ text) ascii = rw (lt-ltb b 128 ascii.0, text_again text ascii.1) refl

direct_read : (host : Host) (queue : List ℕ) → IsHost host → IsName queue
    → direct_of (printed_direct host queue) ≡ Some (host, queue)
unfolding direct_of
direct_read host queue valid is_queue =
    let text = printed_direct host queue in
    let r = start text in
    let spelled : rest_of r ≡ text ++ [] = sym (append-nil text) in
    let behind = rest_again r text [] (length text) refl spelled in
    rw (direct_again r host queue [] valid is_queue refl spelled, behind) refl

pub spelled_again : (name : QueueName) → IsQueueName name → names_queue name ≡ true
    → spelled (kind_of name) (wire name) ≡ Some name
unfolding spelled
spelled_again (Public guid true) valid queue = absurd cc
spelled_again (Public guid false) valid queue = ap public_of (swapped_twice guid.0 valid.0)
spelled_again (Private qm n true) valid queue = absurd cc
spelled_again (Private qm n false) valid queue =
    ap (λ (bytes : List ℕ). private_of bytes (number_of 4 (bytes_of 4 n)))
    (swapped_twice qm.0 valid.0.0)
    ∙ ap (private_of qm.0) (number_back 4 n (omega (arith, valid.1)))
spelled_again (Direct host name true) valid queue = absurd cc
spelled_again (Direct host name false) valid queue =
    let text = printed_direct host name in
    let few : ltb 282 (length (units text)) ≡ false =
    le-ltb _ _ (omega (arith, length_units text, direct_most host name valid.0 valid.1)) in
    rw (
      few,
      text_again text (direct_ascii host name valid.0 valid.1),
      direct_read host name valid.0 valid.1,
    ) refl
spelled_again (Machine qm kind) valid queue = absurd cc

length_again : (name : QueueName) (rest : List ℕ) → IsQueueName name → names_queue name ≡ true
    → length_at (kind_of name) (wire name ++ rest) ≡ Ok (length (wire name))
unfolding length_at
length_again (Public guid journal) rest valid queue = refl
length_again (Private qm n journal) rest valid queue = refl
length_again (Direct host name journal) rest valid queue =
    let text = printed_direct host name in
    counted_few (length text) (units text ++ rest) (direct_most host name valid.0 valid.1)
    ∙ ap (λ (n : ℕ). Ok n) (sym (length_direct (length text) text))
length_again (Machine qm kind) rest valid queue = absurd cc

pub wire_again : (name : QueueName) (rest : List ℕ) → IsQueueName name → names_queue name ≡ true
    → wire_at (kind_of name) (wire name ++ rest) ≡ Ok (length (wire name))
wire_again name rest valid queue =
    let enough : ltb (length (wire name ++ rest)) (length (wire name)) ≡ false =
    le-ltb _ _ (omega (arith, length-append (wire name) rest)) in
    rw (
      length_again name rest valid queue,
      enough,
      take_at (wire name) rest (length (wire name)) refl,
      spelled_again name valid queue,
    ) refl
