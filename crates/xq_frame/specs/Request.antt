-- What a message asks: four bytes of tag, a byte of kind, and a body.
use Rattle.std.specs.Prelude.{ℕ, List, [], ◌∷◌, length, take, drop, slice_index, cond, ◌==◌, nat_le}
use Rattle.std.specs.Int.{from_be_bytes, w32}
use Rattle.xq_frame.specs.declared.requests.Request.{Request}
use Rattle.xq_frame.specs.declared.requests.Request.TheVariants.{Query, Put, Remove, List as ListAll, Bad}

-- a query, a document to store, one to drop, all addresses, or nothing that is a request
pub data RequestMeaning : Type 0 where
  query : List ℕ → RequestMeaning
  put : List ℕ → List ℕ → RequestMeaning
  remove : List ℕ → RequestMeaning
  list : RequestMeaning
  bad : RequestMeaning

-- the body of a put: a byte with the length of the address, the address, a query's text
abbrev pub put_meaning : List ℕ → RequestMeaning
put_meaning [] = bad
put_meaning (size ∷ rest) = cond (nat_le size (length rest))
    (put (take size rest) (drop size rest)) bad

-- the body of a request for all addresses is empty
abbrev pub list_meaning : List ℕ → RequestMeaning
list_meaning [] = list
list_meaning (_ ∷ _) = bad

-- by the kind byte: Q, S, D, L
abbrev pub meaning_by_kind : ℕ → List ℕ → RequestMeaning
meaning_by_kind kind body =
    cond (kind == 81) (query body)
    (cond (kind == 83) (put_meaning body)
    (cond (kind == 68) (remove body) (cond (kind == 76) (list_meaning body) bad)))

-- a message with no room for a tag and a kind asks nothing
abbrev pub message_meaning : List ℕ → RequestMeaning
message_meaning message = cond (nat_le 5 (length message))
    (meaning_by_kind (slice_index message 4) (drop 5 message)) bad

-- and its tag is 0
abbrev pub message_tag : List ℕ → ℕ
message_tag message = cond (nat_le 5 (length message)) (from_be_bytes w32 (take 4 message)) 0

-- what a request of the code asks
abbrev pub request_meaning : Request → RequestMeaning
request_meaning (Query text) = query text.now
request_meaning (Put address text) = put address.now text.now
request_meaning (Remove address) = remove address.now
request_meaning ListAll = list
request_meaning Bad = bad
