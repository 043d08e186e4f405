-- An input, as the bytes of a source come into it.
use Rattle.std.proofs.Common.{◌≡◌, ℕ, ◌+◌, ◌%◌, ◌<◌, ◌≤◌, List, [], ◌++◌, length, take, drop, Option, Some, refl, sym, ap, ◌∙◌, subst, arith, length-append, inl, inr}
use Rattle.std.proofs.lemmas.List.{take-take, take-append-le, length-take-le, length-drop}
use Rattle.std.proofs.lemmas.Slice.{take-put_mid}
use Rattle.std.proofs.Math.Seq.{take-append-add}
use borrow.Rule.Slice.PartMut.{put_mid}
use Rattle.program_io.specs.declared.input.Input.{Input}
use Rattle.program_io.specs.Streams.{Rose, Gives, GivesSome, IsAtEnd}
use Rattle.program_io.specs.Inputs.{HasBytes, IsRead}
use Rattle.program_io.proofs.Bytes.{Gives-none, Gives-then}

-- so many bytes of a source came into an input
pub record HasCome (old new : Option (List ℕ)) (input : Input) (size : ℕ) : Type 0 where
  pub bytes : List ℕ
  pub has : HasBytes input bytes
  pub count : length bytes ≡ size
  pub gives : Gives old new bytes

-- nothing has come
pub come_none : (left : Option (List ℕ)) (input : Input) → HasBytes input [] → HasCome left left input 0
come_none left input has = record { bytes = []; has = has; count = refl; gives = Gives-none left }

-- a piece more has come
come_more : (a b c : Option (List ℕ)) (old new : Input) (size n : ℕ) (piece : List ℕ) → HasCome a b old size → size % 8 ≡ 0 → Gives b c piece → length piece ≡ n →
    ((bytes : List ℕ) → length bytes % 8 ≡ 0 → HasBytes old bytes → HasBytes new (bytes ++ piece)) → HasCome a c new (size + n)
come_more a b c old new size n piece come whole gives count adds = record {
  bytes = come.bytes ++ piece;
  has = adds come.bytes (ap (λ k. k % 8) come.count ∙ whole) come.has;
  count = omega (arith, length-append come.bytes piece, come.count, count);
  gives = Gives-then a b c come.bytes piece come.gives gives;
}

-- the front of a buffer that lies in a longer one
front_of : (piece items : List ℕ) (size n : ℕ) → n ≤ size → n ≤ length piece → take n (take size (piece ++ drop (length piece) items)) ≡ take n piece
front_of piece items size n below inside = take-take n size (piece ++ drop (length piece) items) below ∙ take-append-le n piece (drop (length piece) items) inside

-- the front of a buffer, which a source filled
pub come_filled : {a b c : Option (List ℕ)} {old new : Input} {size len : ℕ} {lent : List ℕ} (n : ℕ) (piece items : List ℕ) → HasCome a b old size → size % 8 ≡ 0 → lent ≡ take len (piece ++ drop (length piece) items) → n ≤ len → n ≤ length piece →
    Gives b c (take n piece) → ((bytes : List ℕ) → length bytes % 8 ≡ 0 → HasBytes old bytes → HasBytes new (bytes ++ take n lent)) → HasCome a c new (size + n)
come_filled {a} {b} {c} {old} {new} {size} {len} {lent} n piece items come whole is below inside gives adds =
    let front : take n lent ≡ take n piece = ap (take n) is ∙ front_of piece items len n below inside in
    come_more a b c old new size n (take n lent) come whole (subst (λ (bytes : List ℕ). Gives b c bytes) (sym front) gives) (ap length front ∙ length-take-le n piece inside) adds

-- all has come
pub come_all : {old new : Option (List ℕ)} {input : Input} {size : ℕ} (limit : ℕ) → HasCome old new input size → size ≤ limit → IsAtEnd new → IsRead (Some limit) old new input
come_all limit come few ended =
    record { bytes = come.bytes; has = come.has; read = (record { gives = come.gives; ended = ended }, omega (arith, come.count, few)) }

-- too much has come
pub come_too_much : (old new : Option (List ℕ)) (input : Input) (size limit : ℕ) → HasCome old new input size → size ≡ limit + 1 → GivesSome old new (λ n. n ≡ limit + 1)
come_too_much old new input size limit come much = record { bytes = come.bytes; many = come.count ∙ much; gives = come.gives }

-- a source failed in a piece, of which there was room for so many bytes
pub come_few : (a b c : Option (List ℕ)) (input : Input) (size most limit : ℕ) → HasCome a b input size → GivesSome b c (λ n. n < most) → size + most ≤ limit + 1 → GivesSome a c (λ n. n ≤ limit)
come_few a b c input size most limit come less few = record {
  bytes = come.bytes ++ less.bytes;
  many = let less_many : length less.bytes < most = less.many in omega (arith, length-append come.bytes less.bytes, come.count, less_many, few);
  gives = Gives-then a b c come.bytes less.bytes come.gives less.gives;
}

-- a count that rose behind a later moment rose behind an earlier one
pub Rose-before : (first later now : ℕ) → first ≤ later → Rose later now → Rose first now
Rose-before first later now before (inl more) = inl (omega (arith, before, more))
Rose-before first later now before (inr most) = inr most

-- a buffer is as long as it was
pub length-put_mid : (done rest : ℕ) (piece into : List ℕ) → done + rest ≤ length piece → length into ≡ rest → length (put_mid done rest piece into) ≡ length piece
length-put_mid done rest piece into inside size =
    let front = length-take-le done piece (omega (arith, inside)) in
    let back = length-drop done piece in
    let behind = length-drop rest (drop done piece) in
    let joined = length-append into (drop rest (drop done piece)) in
    let all = length-append (take done piece) (into ++ drop rest (drop done piece)) in
    omega (arith, inside, size, front, back, behind, joined, all)

-- what two reads put at the front of a buffer, one behind the other
pub two_reads : (piece into : List ℕ) (done rest n : ℕ) → done + rest ≤ length piece → length into ≡ rest → n ≤ rest → take (done + n) (put_mid done rest piece into) ≡ take done piece ++ take n into
two_reads piece into done rest n inside size few =
    let within : done ≤ length piece = omega (arith, inside) in
    let long : length (take done piece) ≡ done = length-take-le done piece within in
    let whole : take (done + length into) (put_mid done rest piece into) ≡ take done piece ++ into = take-put_mid done rest piece into (done + length into) refl within in
    let shorter : done + n ≤ done + length into = omega (arith, size, few) in
    sym (take-take (done + n) (done + length into) (put_mid done rest piece into) shorter)
    ∙ ap (take (done + n)) whole
    ∙ ap (λ m. take (m + n) (take done piece ++ into)) (sym long)
    ∙ take-append-add (take done piece) into n
