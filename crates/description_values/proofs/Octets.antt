-- A coded text consists of octets.
use Rattle.std.proofs.Common.{◌≡◌, ℕ, ◌<◌, nat_lt, Bool, true, false, List, ◌∷◌, arith, if◌then◌else◌, All, get_or}
use Rattle.std.proofs.lemmas.Bool.Decides.{nat_tests}
use Rattle.std.proofs.lemmas.List.Sums.{list_all-from_AllPass, AllPass-from_list_all}
use Rattle.std.specs.List.{list_all}
use Rattle.dvb_tables.specs.CharacterCoding.{text_bytes, is_plain}
use Rattle.description_values.specs.Values.{is_octet}

after_either : (b : Bool) (text : List ℕ) → list_all is_octet text ≡ true → list_all is_octet (if b then text else 0x15 ∷ text) ≡ true
after_either true text h = h
after_either false text h = h

pub coded_octets : (text : List ℕ) → list_all is_octet text ≡ true → list_all is_octet (text_bytes text) ≡ true
coded_octets text h = after_either (is_plain text) text h

pub octets_of_All : (bytes : List ℕ) → All (λ b. b < 256) bytes → list_all is_octet bytes ≡ true
octets_of_All bytes h =
    list_all-from_AllPass is_octet bytes (λ k d within. let small : get_or bytes k d < 256 = h k d within in grind (arith, nat_tests, small))

pub All_octets : (bytes : List ℕ) → list_all is_octet bytes ≡ true → All (λ b. b < 256) bytes
All_octets bytes h = λ k d within. let small : nat_lt (get_or bytes k d) 256 ≡ true = AllPass-from_list_all is_octet bytes h k d within in
    grind (arith, nat_tests, small)
