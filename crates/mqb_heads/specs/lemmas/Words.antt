-- What was put into the bits of a word is found in them.
use Rattle.std.proofs.Common.{◌≡◌, ◌≤◌, ◌<◌, ℕ, ◌+◌, ◌/◌, ◌%◌, ◌^◌, Bool, true, false, arith}
use Rattle.std.proofs.lemmas.Bool.{eq-eqb, ne_eqb}
use Rattle.mqb_heads.specs.Flags.{bit, bits, flag, placed}

is_set : (index word : ℕ) → word / 2 ^ index % 2 ≡ 1 → bit index word ≡ true
is_set index word e = eq-eqb _ _ e

is_clear : (index word : ℕ) → word / 2 ^ index % 2 ≡ 0 → bit index word ≡ false
is_clear index word e = ne_eqb _ _ (λ h. absurd (omega (arith, e, h)))

-- the flags of a base header
abbrev pub base_word : ℕ → Bool → Bool → ℕ
base_word priority internal session = priority + flag 3 internal + flag 4 session

pub record BaseBits (priority : ℕ) (internal session : Bool) : Type 0 where
  pub low : bits 0 3 (base_word priority internal session) ≡ priority
  pub third : bit 3 (base_word priority internal session) ≡ internal
  pub fourth : bit 4 (base_word priority internal session) ≡ session
  pub fifth : bit 5 (base_word priority internal session) ≡ false
  pub fits : base_word priority internal session < 256 ^ 2

pub base_bits : (priority : ℕ) (internal session : Bool) → priority ≤ 7
    → BaseBits priority internal session
base_bits p true true small = record {
  low = omega arith;
  third = is_set 3 _ (omega arith);
  fourth = is_set 4 _ (omega arith);
  fifth = is_clear 5 _ (omega arith);
  fits = omega arith;
}
base_bits p true false small = record {
  low = omega arith;
  third = is_set 3 _ (omega arith);
  fourth = is_clear 4 _ (omega arith);
  fifth = is_clear 5 _ (omega arith);
  fits = omega arith;
}
base_bits p false true small = record {
  low = omega arith;
  third = is_clear 3 _ (omega arith);
  fourth = is_set 4 _ (omega arith);
  fifth = is_clear 5 _ (omega arith);
  fits = omega arith;
}
base_bits p false false small = record {
  low = omega arith;
  third = is_clear 3 _ (omega arith);
  fourth = is_clear 4 _ (omega arith);
  fifth = is_clear 5 _ (omega arith);
  fits = omega arith;
}

-- the flags of a user header; low has the first two bits
abbrev pub user_word : ℕ → ℕ → ℕ → ℕ → ℕ → ℕ
user_word low destination admin response journal =
    low + placed 2 destination + placed 5 admin + placed 8 response + placed 11 journal

pub record UserBits (low destination admin response journal : ℕ) : Type 0 where
  pub first : user_word low destination admin response journal / 2 ^ 0 % 2 ≡ low % 2
  pub second : user_word low destination admin response journal / 2 ^ 1 % 2 ≡ low / 2
  pub destination_type : bits 2 3 (user_word low destination admin response journal) ≡ destination
  pub admin_type : bits 5 3 (user_word low destination admin response journal) ≡ admin
  pub response_type : bits 8 3 (user_word low destination admin response journal) ≡ response
  pub journal_bits : bits 11 2 (user_word low destination admin response journal) ≡ journal
  pub secured : bit 13 (user_word low destination admin response journal) ≡ false
  pub fits : user_word low destination admin response journal < 256 ^ 4

pub user_bits : (low destination admin response journal : ℕ) → low ≤ 3 → destination ≤ 3 → admin ≤ 3
    → response ≤ 3 → journal ≤ 3 → UserBits low destination admin response journal
user_bits low d a p j l_few d_few a_few p_few j_few = record {
  first = omega arith;
  second = omega arith;
  destination_type = omega arith;
  admin_type = omega arith;
  response_type = omega arith;
  journal_bits = omega arith;
  secured = is_clear 13 _ (omega arith);
  fits = omega arith;
}
