-- The line of a key, line by line
use Rattle.std.proofs.Common.{◌≡◌, ◌∙◌, ◌<◌, ◌≤◌, ◌+◌, ℕ, List, [], ◌∷◌, length, drop, map, get_or, Bool, true, false, Option, Some, None, refl, sym, ap}
use Rattle.std.proofs.Common.{add-one}
use Rattle.std.specs.Prelude.{codes, if◌then◌else◌}
use Rattle.std.specs.Borrow.{Bor}
use Rattle.std.proofs.Math.Seq.{drop-cons}
use Rattle.std.proofs.lemmas.List.{drop_all}
use Rattle.diagnosis.specs.KeyPlaces.{begins, heads_after, is_found, is_last, key_row}

abbrev pub shown : List (Bor (List ℕ)) → List (List ℕ)
shown lines = map {A = Bor (List ℕ)} {B = List ℕ} (λ s. s.now) lines

pub shown_from : (lines : List (Bor (List ℕ))) (i : ℕ) (d : Bor (List ℕ)) → i < length lines →
    shown (drop i lines) ≡ (get_or lines i d).now ∷ shown (drop (i + 1) lines)
shown_from lines i d below = rw (drop-cons lines i d below, add-one i) refl

-- 1. One line

head_row : (head key l : List ℕ) (inside : Bool) (left n : ℕ) (ls : List (List ℕ)) → begins l (codes "[") ≡ true →
    key_row head key inside left n (l ∷ ls) ≡ key_row head key (is_last (begins l head) left) (heads_after (begins l head) left) (n + 1) ls
unfolding key_row
head_row head key l inside left n ls opens =
    ap (λ (b : Bool). if b then key_row head key (is_last (begins l head) left) (heads_after (begins l head) left) (n + 1) ls
    else (if is_found inside key l then Some (n, l) else key_row head key inside left (n + 1) ls)) opens

line_row : (head key l : List ℕ) (inside : Bool) (left n : ℕ) (ls : List (List ℕ)) → begins l (codes "[") ≡ false →
    key_row head key inside left n (l ∷ ls) ≡ (if is_found inside key l then Some (n, l) else key_row head key inside left (n + 1) ls)
unfolding key_row
line_row head key l inside left n ls opens =
    ap (λ (b : Bool). if b then key_row head key (is_last (begins l head) left) (heads_after (begins l head) left) (n + 1) ls
    else (if is_found inside key l then Some (n, l) else key_row head key inside left (n + 1) ls)) opens

no_row : (head key : List ℕ) (inside : Bool) (left n : ℕ) → key_row head key inside left n [] ≡ None
unfolding key_row
no_row head key inside left n = refl

-- 2. The lines one after another

pub head_step : (head key bytes : List ℕ) (inside later opens own : Bool) (left fewer i : ℕ) (lines : List (Bor (List ℕ))) (d : Bor (List ℕ))
    (all : Option (ℕ × List ℕ)) →
    i < length lines → bytes ≡ (get_or lines i d).now → opens ≡ begins bytes (codes "[") → opens ≡ true → own ≡ begins bytes head → later ≡ is_last own left →
    fewer ≡ heads_after own left →
    key_row head key inside left (i + 1) (shown (drop i lines)) ≡ all → key_row head key later fewer (i + 1 + 1) (shown (drop (i + 1) lines)) ≡ all
head_step head key bytes inside later opens own left fewer i lines d all below at o opened w l f so =
    let line : List ℕ = (get_or lines i d).now in
    let rest : List (List ℕ) = shown (drop (i + 1) lines) in
    let is : own ≡ begins line head = w ∙ ap (λ (x : List ℕ). begins x head) at in
    let head_is : begins line (codes "[") ≡ true = sym (ap (λ (x : List ℕ). begins x (codes "[")) at) ∙ sym o ∙ opened in
    ap (λ (b : Bool). key_row head key b fewer (i + 1 + 1) rest) (l ∙ ap (λ (b : Bool). is_last b left) is)
    ∙ ap (λ (m : ℕ). key_row head key (is_last (begins line head) left) m (i + 1 + 1) rest) (f ∙ ap (λ (b : Bool). heads_after b left) is)
    ∙ sym (head_row head key line inside left (i + 1) rest head_is)
    ∙ sym (ap (λ (ls : List (List ℕ)). key_row head key inside left (i + 1) ls) (shown_from lines i d below)) ∙ so

line_step : (head key bytes : List ℕ) (inside opens found : Bool) (left i : ℕ) (lines : List (Bor (List ℕ))) (d : Bor (List ℕ)) (all : Option (ℕ × List ℕ)) →
    i < length lines → bytes ≡ (get_or lines i d).now → opens ≡ begins bytes (codes "[") → opens ≡ false → found ≡ is_found inside key bytes →
    key_row head key inside left (i + 1) (shown (drop i lines)) ≡ all →
    (if found then Some (i + 1, (get_or lines i d).now) else key_row head key inside left (i + 1 + 1) (shown (drop (i + 1) lines))) ≡ all
line_step head key bytes inside opens found left i lines d all below at o opened w so =
    let line : List ℕ = (get_or lines i d).now in
    let rest : List (List ℕ) = shown (drop (i + 1) lines) in
    let is : found ≡ is_found inside key line = w ∙ ap (λ (x : List ℕ). is_found inside key x) at in
    let head_is : begins line (codes "[") ≡ false = sym (ap (λ (x : List ℕ). begins x (codes "[")) at) ∙ sym o ∙ opened in
    ap (λ (b : Bool). if b then Some (i + 1, line) else key_row head key inside left (i + 1 + 1) rest) is
    ∙ sym (line_row head key line inside left (i + 1) rest head_is)
    ∙ sym (ap (λ (ls : List (List ℕ)). key_row head key inside left (i + 1) ls) (shown_from lines i d below)) ∙ so

pub other_step : (head key bytes : List ℕ) (inside later opens found : Bool) (left same i : ℕ) (lines : List (Bor (List ℕ))) (d : Bor (List ℕ))
    (all : Option (ℕ × List ℕ)) →
    i < length lines → bytes ≡ (get_or lines i d).now → opens ≡ begins bytes (codes "[") → opens ≡ false → found ≡ is_found inside key bytes → found ≡ false →
    later ≡ inside → same ≡ left →
    key_row head key inside left (i + 1) (shown (drop i lines)) ≡ all → key_row head key later same (i + 1 + 1) (shown (drop (i + 1) lines)) ≡ all
other_step head key bytes inside later opens found left same i lines d all below at o opened w none l s so =
    let rest : List (List ℕ) = shown (drop (i + 1) lines) in
    ap (λ (b : Bool). key_row head key b same (i + 1 + 1) rest) l ∙ ap (λ (m : ℕ). key_row head key inside m (i + 1 + 1) rest) s
    ∙ sym (ap (λ (b : Bool). if b then Some (i + 1, (get_or lines i d).now) else key_row head key inside left (i + 1 + 1) rest) none)
    ∙ line_step head key bytes inside opens found left i lines d all below at o opened w so

pub found_step : (head key bytes : List ℕ) (inside opens found : Bool) (left i : ℕ) (lines : List (Bor (List ℕ))) (d : Bor (List ℕ)) (all : Option (ℕ × List ℕ))
    →
    i < length lines → bytes ≡ (get_or lines i d).now → opens ≡ begins bytes (codes "[") → opens ≡ false → found ≡ is_found inside key bytes → found ≡ true →
    key_row head key inside left (i + 1) (shown (drop i lines)) ≡ all → Some (i + 1, (get_or lines i d).now) ≡ all
found_step head key bytes inside opens found left i lines d all below at o opened w one so =
    let rest : List (List ℕ) = shown (drop (i + 1) lines) in
    sym (ap (λ (b : Bool). if b then Some (i + 1, (get_or lines i d).now) else key_row head key inside left (i + 1 + 1) rest) one)
    ∙ line_step head key bytes inside opens found left i lines d all below at o opened w so

pub no_step : (head key : List ℕ) (inside : Bool) (left i : ℕ) (lines : List (Bor (List ℕ))) (all : Option (ℕ × List ℕ)) → length lines ≤ i →
    key_row head key inside left (i + 1) (shown (drop i lines)) ≡ all → None ≡ all
no_step head key inside left i lines all over so =
    sym (no_row head key inside left (i + 1)) ∙ sym (ap (λ (ls : List (Bor (List ℕ))). key_row head key inside left (i + 1) (shown ls)) (drop_all i lines over))
    ∙ so
