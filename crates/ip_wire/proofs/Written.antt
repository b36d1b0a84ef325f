-- Octets that are written one piece after another.
use Rattle.std.proofs.Common.{ℕ, ◌≤◌, ◌+◌, ◌/◌, ◌%◌, arith, List, [], ◌∷◌, ◌++◌, ◌≡◌, length, take, drop, refl, ap, sym, ◌∙◌, append_assoc, length-append}
use Rattle.ip_wire.specs.Octets.{be16}
use Rattle.ip_wire.specs.Packet.{with_checksum}
use Rattle.std.proofs.lemmas.List.{drop-drop, drop_at, length-take-le, take_at}

drop_further : (front rest : List ℕ) (n m : ℕ) → length front ≡ n → drop (n + m) (front ++ rest) ≡ drop m rest
drop_further front rest n m l = sym (drop-drop m n (front ++ rest)) ∙ ap (drop m) (drop_at front rest n l)

-- a piece behind those that are there
pub put_next : (front piece xs ys zs : List ℕ) (n : ℕ) → length front ≡ n → ys ≡ front ++ drop n xs → zs ≡ take n ys ++ (piece ++ drop (n + length piece) ys) → zs ≡ (front ++ piece) ++ drop (n + length piece) xs
put_next front piece xs ys zs n l y z =
    z ∙ ap (λ us. take n us ++ (piece ++ drop (n + length piece) us)) y
    ∙ ap (λ us. us ++ (piece ++ drop (n + length piece) (front ++ drop n xs))) (take_at front (drop n xs) n l)
    ∙ ap (λ us. front ++ (piece ++ us)) (drop_further front (drop n xs) n (length piece) l ∙ drop-drop (length piece) n xs)
    ∙ sym (append_assoc front piece (drop (n + length piece) xs))

-- a head and a piece
pub put_two : (head a ws xs ys : List ℕ) → xs ≡ head ++ drop (length head) ws → ys ≡ take (length head) xs ++ (a ++ drop (length head + length a) xs) → ys ≡ (head ++ a) ++ drop (length head + length a) ws
put_two head a ws xs ys x y = put_next head a ws xs ys (length head) refl x y

-- a head and two pieces
pub put_three : (head a b ws xs ys zs : List ℕ) → xs ≡ head ++ drop (length head) ws → ys ≡ take (length head) xs ++ (a ++ drop (length head + length a) xs) → zs ≡ take (length head + length a) ys ++ (b ++ drop ((length head + length a) + length b) ys) → zs ≡ (head ++ (a ++ b)) ++ drop ((length head + length a) + length b) ws
put_three head a b ws xs ys zs x y z =
    let f : ys ≡ (head ++ a) ++ drop (length head + length a) ws = put_next head a ws xs ys (length head) refl x y in
    put_next (head ++ a) b ws ys zs (length head + length a) (length-append head a) f z
    ∙ ap (λ us. us ++ drop ((length head + length a) + length b) ws) (append_assoc head a b)

-- a length that is cut before the header is counted
pub total_len : (n : ℕ) → be16 (n % 65536 + 20) ≡ be16 (20 + n)
total_len n =
    let high : (n % 65536 + 20) / 256 % 256 ≡ (20 + n) / 256 % 256 = omega arith in
    let low : (n % 65536 + 20) % 256 ≡ (20 + n) % 256 = omega arith in
    ap (λ h. h ∷ (n % 65536 + 20) % 256 ∷ []) high ∙ ap (λ l. (20 + n) / 256 % 256 ∷ l ∷ []) low

-- of two checksums the later one stays
pub checksum_again : (xs : List ℕ) (m n : ℕ) → 12 ≤ length xs → with_checksum (with_checksum xs m) n ≡ with_checksum xs n
checksum_again xs m n h =
    let l : length (take 10 xs) ≡ 10 = length-take-le 10 xs (omega arith) in
    let f : take 10 (with_checksum xs m) ≡ take 10 xs = take_at (take 10 xs) (be16 m ++ drop 12 xs) 10 l in
    let d : drop 12 (with_checksum xs m) ≡ drop 12 xs = drop_further (take 10 xs) (be16 m ++ drop 12 xs) 10 2 l in
    ap (λ us. us ++ (be16 n ++ drop 12 (with_checksum xs m))) f ∙ ap (λ us. take 10 xs ++ (be16 n ++ us)) d
