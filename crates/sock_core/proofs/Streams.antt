-- Bytes of a list, and prefixes.
use Rattle.std.proofs.Common.{◌≡◌, ℕ, zero, suc, ◌+◌, ◌-◌, ◌<◌, ◌≤◌, refl, sym, ap, subst, arith, List, [], ◌∷◌, ◌++◌, length, drop, take, Some, None, length-append}
use Rattle.std.proofs.lemmas.Option.{slice_get_within}
use Rattle.sock_core.specs.Streams.{ByteAt, IsPrefix}

-- a byte stands within the list
pub byte_within : (xs : List ℕ) (j b : ℕ) → ByteAt xs j b → j < length xs
byte_within xs j b h = slice_get_within xs j b h

-- a byte of the beginning is a byte of the whole
pub byte_of_prefix : (xs ys : List ℕ) (j b : ℕ) → ByteAt xs j b → ByteAt (xs ++ ys) j b
byte_of_prefix [] ys j b h = cc
byte_of_prefix (x ∷ xs) ys zero b h = h
byte_of_prefix (x ∷ xs) ys (suc j) b h = byte_of_prefix xs ys j b h

-- and back, below the beginning's length
pub byte_in_prefix : (xs ys : List ℕ) (j b : ℕ) → j < length xs → ByteAt (xs ++ ys) j b → ByteAt xs j b
byte_in_prefix [] ys j b l h = absurd (omega arith)
byte_in_prefix (x ∷ xs) ys zero b l h = h
byte_in_prefix (x ∷ xs) ys (suc j) b l h = byte_in_prefix xs ys j b (omega arith) h

-- a byte of a prefix is a byte of the whole
pub prefix_at : (xs ys : List ℕ) (j b : ℕ) → IsPrefix xs ys → ByteAt xs j b → ByteAt ys j b
prefix_at xs ys j b f h = subst (λ zs. ByteAt zs j b) f.1 (byte_of_prefix xs f.0 j b h)

-- and back, below its length
pub prefix_back : (xs ys : List ℕ) (j b : ℕ) → IsPrefix xs ys → j < length xs → ByteAt ys j b → ByteAt xs j b
prefix_back xs ys j b f l h = byte_in_prefix xs f.0 j b l (subst (λ zs. ByteAt zs j b) (sym f.1) h)

-- a prefix is no longer
pub prefix_le : (xs ys : List ℕ) → IsPrefix xs ys → length xs ≤ length ys
prefix_le xs ys f = omega (arith, length-append xs f.0, ap length f.1)

-- a list is its own prefix
pub prefix_self : (xs : List ℕ) → IsPrefix xs xs
prefix_self [] = ([], refl)
prefix_self (x ∷ xs) = (let r = prefix_self xs in r.0, ap (λ ys. x ∷ ys) (prefix_self xs).1)

-- a list whose bytes are all the other's is its prefix
pub prefix_from_at : (xs ys : List ℕ) → ((j b : ℕ) → ByteAt xs j b → ByteAt ys j b) → IsPrefix xs ys
prefix_from_at [] ys h = (ys, refl)
prefix_from_at (x ∷ xs) [] h = let e : None ≡ Some x = h zero x refl in cc
prefix_from_at (x ∷ xs) (y ∷ ys) h =
    let e : Some y ≡ Some x = h zero x refl in
    let r = prefix_from_at xs ys (λ j b a. h (suc j) b a) in
    (r.0, cc)

-- and so is no longer
pub le_from_at : (xs ys : List ℕ) → ((j b : ℕ) → ByteAt xs j b → ByteAt ys j b) → length xs ≤ length ys
le_from_at xs ys h = prefix_le xs ys (prefix_from_at xs ys h)

-- a byte past the beginning stands in the rest
pub byte_right : (xs ys : List ℕ) (j b : ℕ) → length xs ≤ j → ByteAt (xs ++ ys) j b → ByteAt ys (j - length xs) b
byte_right [] ys j b l h = subst (λ k. ByteAt ys k b) (omega arith) h
byte_right (x ∷ xs) ys zero b l h = absurd (omega arith)
byte_right (x ∷ xs) ys (suc j) b l h = subst (λ k. ByteAt ys k b) (omega arith) (byte_right xs ys j b (omega arith) h)

-- a list without bytes is empty
pub no_bytes : (xs : List ℕ) → ((j b : ℕ) → ByteAt xs j b → ⊥) → xs ≡ []
no_bytes [] h = refl
no_bytes (x ∷ xs) h = absurd (h zero x refl)

-- a byte of what is left stood further on
pub byte_drop : (xs : List ℕ) (n j b : ℕ) → ByteAt (drop n xs) j b → ByteAt xs (n + j) b
byte_drop xs zero j b h = subst (λ k. ByteAt xs k b) {x = j} {y = 0 + j} (omega arith) h
byte_drop [] (suc n) j b h = let e : None ≡ Some b = h in cc
byte_drop (x ∷ xs) (suc n) j b h = subst (λ k. ByteAt (x ∷ xs) k b) {x = suc (n + j)} {y = suc n + j} (omega arith) (byte_drop xs n j b h)

-- a byte of what is taken stood there
pub byte_take : (xs : List ℕ) (n j b : ℕ) → ByteAt (take n xs) j b → ByteAt xs j b
byte_take xs zero j b h = let e : None ≡ Some b = h in cc
byte_take [] (suc n) j b h = h
byte_take (x ∷ xs) (suc n) zero b h = h
byte_take (x ∷ xs) (suc n) (suc j) b h = byte_take xs n j b h
