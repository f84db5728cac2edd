-- Whether a message fits those that came before it.
use Rattle.std.specs.Prelude.{◌&&◌, ◌==◌, nat_lt, Bool, List}
use Rattle.std.specs.List.{list_all}
use Rattle.mqb_base.specs.Same.{same_bytes, same_id, same_name}
use Rattle.mqb_base.specs.declared.message.Message.{Message}
use Rattle.mqb_capture.specs.Judged.{fits, same_optional}
use Rattle.mqb_capture.specs.declared.link.Link.{Link}

-- The parts of `same_message`, from the last fields on.

abbrev pub same_content : Message → Message → Bool
same_content a b = (a.body_type == b.body_type && a.tag == b.tag)
    && ((same_bytes a.label b.label && same_bytes a.extension b.extension)
    && same_bytes a.body b.body)

abbrev pub same_asking : Message → Message → Bool
same_asking a b = (same_optional a.response b.response && a.ack == b.ack)
    && ((a.journal == b.journal && same_id a.correlation b.correlation) && same_content a b)

abbrev pub same_names : Message → Message → Bool
same_names a b = (a.sent == b.sent && a.life == b.life)
    && ((same_name a.destination b.destination && same_optional a.admin b.admin) && same_asking a b)

-- two messages fit, whichever of them is the later one
abbrev pub fit_both : Link → Link → Bool
fit_both a b = fits a b && fits b a

-- a message fits each that came
abbrev pub fits_all : List Link → Link → Bool
fits_all came n = list_all (λ a. fit_both a n) came

-- it links to a number below its own too
abbrev pub may_join : List Link → Link → Bool
may_join came n = nat_lt n.tx.previous n.tx.number && fits_all came n
