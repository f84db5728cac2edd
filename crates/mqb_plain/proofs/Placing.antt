-- The message at a place.
use Rattle.std.proofs.Common.{◌≡◌, ◌∙◌, ℕ, List, Option, Some, ap, slice_get}
use Rattle.std.proofs.lemmas.Option.{slice_get-map}
use Rattle.std.specs.Prelude.{option_map}
use Rattle.mqb_base.specs.declared.message.Message.{Message}
use Rattle.mqb_plain.specs.Lists.{messages_of}
use Rattle.mqb_plain.specs.declared.outgoing.Outgoing.{Outgoing}

pub message_of_place : (items : List Outgoing) (k : ℕ) (o : Outgoing) → slice_get items k ≡ Some o → slice_get (messages_of items) k ≡ Some o.message
message_of_place items k o there =
    slice_get-map (λ (x : Outgoing). x.message) items k ∙ ap (λ (x : Option Outgoing). option_map (λ (y : Outgoing). y.message) x) there
