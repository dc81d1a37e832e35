-- From one answered frame to a whole run.
use Rattle.std.proofs.Common.{◌≡◌, ℕ, ◌+◌, ◌-◌, ◌<◌, ◌≤◌, List, [], ◌∷◌, ◌++◌, length, take, drop, refl, length-drop, sym, ◌∙◌, ap, subst, arith, inl, inr, codes, append_assoc, lit≤, Result, Ok, Err, string_bytes}
use Rattle.std.proofs.lemmas.List.{append-nil}
use Rattle.std.proofs.lemmas.Grind.{flat_map-append, common_steps}
use Rattle.std.proofs.Math.Seq.{drop-append_seam, take-length}
use Rattle.std.specs.List.{flat_map, AllByRecursion}
use Rattle.xq_frame.specs.Frame.{frame_bytes, IsMessage}
use Rattle.xq_frame.specs.Request.{RequestMeaning, query, put, remove as remove_one, list, bad, request_meaning, message_meaning}
use Rattle.xq_frame.specs.Next.{Starts, IsFrameOf}
use Rattle.xq_frame.specs.declared.frames.Frame.{Frame}
use Rattle.xq_tables.specs.Documents.{Map}
use Rattle.xq_atoms.specs.Code.{code_text, want_text}
use Rattle.xq_frame.specs.Reply.{longest_text}
use Rattle.xq_server.specs.Step.{Step}
use Rattle.xq_server.specs.ReadBack.{ReadsBackFrom}
use Rattle.xq_server.specs.private.Work.{Tells, Writes, IsShort}
use Rattle.xq_server.specs.Run.{Reply, bytes_of, written, IsReplyTo, AreReplies, Run, Ran, RanOver, Answered}
use Rattle.xq_atoms.specs.declared.refusals.Fault.{Fault}
use Rattle.xq_atoms.specs.declared.refusals.Fault.TheVariants.{Code as OfCode, Want as OfWant}
use Rattle.xq_atoms.specs.declared.refusals.Want.{Want}
use Rattle.xq_atoms.specs.declared.refusals.Want.TheVariants.{Memory, Store}
use Rattle.xq_server.specs.declared.answers.Answer.{Answer}
use Rattle.xq_server.specs.declared.answers.Answer.TheVariants.{Text, Stored, Replaced, Dropped}

want_short : (want : Want) → length (want_text want) ≤ longest_text
want_short Memory = lit≤ tt
want_short Store = lit≤ tt

-- what was written is a reply, by which the step is one that may be
pub record Says (before after : List ℕ) (tag : ℕ) (told : Result Answer Fault) (r : Reply) : Type 0 where
  pub out : after ≡ before ++ bytes_of r
  pub tagged : r.tag ≡ tag
  pub status : r.status ≤ 2
  pub short : length r.text ≤ longest_text
  pub step : (m : Map) (asks : RequestMeaning) (new : Map) → Tells m asks new told → Step m asks new r.status r.text
  pub read_back : (m : Map) (asks : RequestMeaning) (new : Map) → Tells m asks new told → ReadsBackFrom m asks r.status r.text

-- what has another status than 0 need not read back
no_success : (m : Map) (asks : RequestMeaning) (status : ℕ) (text : List ℕ) → 0 < status → ReadsBackFrom m asks status text
no_success m (query asked) status text h = λ zero. absurd (omega (arith, h, zero))
no_success m (put address asked) status text h = tt
no_success m (remove_one address) status text h = tt
no_success m list status text h = tt
no_success m bad status text h = tt

pub replied : (before after : List ℕ) (tag : ℕ) (told : Result Answer Fault) → IsShort told → Writes before after tag told → (r : Reply) × Says before after tag told r
replied before after tag (Ok (Text t)) short w = elim w [
  | inl out ↦ (
    record { tag = tag; status = 0; text = string_bytes t },
    record { out = out; tagged = refl; status = lit≤ tt; short = short; step = λ m asks new tells. inl tells.0.0; read_back = λ m asks new tells. tells.0.1 },
  )
  | inr out ↦ (
    record { tag = tag; status = 2; text = want_text Memory },
    record { out = out; tagged = refl; status = lit≤ tt; short = lit≤ tt; step = λ m asks new tells. inr (Memory, tells.1, refl, refl, tells.2); read_back = λ m asks new tells. no_success m asks 2 (want_text Memory) (omega arith) },
  )
]
replied before after tag (Ok Stored) short w = (
  record { tag = tag; status = 0; text = codes "stored" },
  record { out = w; tagged = refl; status = lit≤ tt; short = lit≤ tt; step = λ m asks new tells. inl tells.0; read_back = λ m asks new tells. tells.1 },
)
replied before after tag (Ok Replaced) short w = (
  record { tag = tag; status = 0; text = codes "replaced" },
  record { out = w; tagged = refl; status = lit≤ tt; short = lit≤ tt; step = λ m asks new tells. inl tells.0; read_back = λ m asks new tells. tells.1 },
)
replied before after tag (Ok Dropped) short w = (
  record { tag = tag; status = 0; text = codes "dropped" },
  record { out = w; tagged = refl; status = lit≤ tt; short = lit≤ tt; step = λ m asks new tells. inl tells.0; read_back = λ m asks new tells. tells.1 },
)
replied before after tag (Err (OfCode code)) short w = (
  record { tag = tag; status = 1; text = code_text code },
  record { out = w.0; tagged = refl; status = lit≤ tt; short = w.1; step = λ m asks new tells. inl tells; read_back = λ m asks new tells. no_success m asks 1 (code_text code) (omega arith) },
)
replied before after tag (Err (OfWant want)) short w = (
  record { tag = tag; status = 2; text = want_text want },
  record { out = w; tagged = refl; status = lit≤ tt; short = want_short want; step = λ m asks new tells. inr (want, tells.0, refl, refl, tells.1); read_back = λ m asks new tells. no_success m asks 2 (want_text want) (omega arith) },
)

-- a run goes on by one frame
more_run : (m mid new : Map) (messages : List (List ℕ)) (replies : List Reply) (message : List ℕ) (r : Reply) → Run m messages replies mid
    → Step mid (message_meaning message) new r.status r.text → ReadsBackFrom mid (message_meaning message) r.status r.text
    → Run m (messages ++ message ∷ []) (replies ++ r ∷ []) new
more_run m mid new [] [] message r run step back =
    (new, (subst (λ k. Step k (message_meaning message) new r.status r.text) run step, subst (λ k. ReadsBackFrom k (message_meaning message) r.status r.text) run back, refl))
more_run m mid new (b ∷ messages) (s ∷ replies) message r run step back =
    (run.0, (run.1.0, run.1.1, more_run run.0 mid new messages replies message r run.1.2 step back))
more_run m mid new [] (s ∷ replies) message r run step back = absurd run
more_run m mid new (b ∷ messages) [] message r run step back = absurd run

more_replies : (messages : List (List ℕ)) (replies : List Reply) (message : List ℕ) (r : Reply) → AreReplies messages replies → IsReplyTo message r
    → AreReplies (messages ++ message ∷ []) (replies ++ r ∷ [])
more_replies [] [] message r so_far is = (is, tt)
more_replies (b ∷ messages) (s ∷ replies) message r so_far is = (so_far.0, more_replies messages replies message r so_far.1 is)
more_replies [] (s ∷ replies) message r so_far is = absurd so_far
more_replies (b ∷ messages) [] message r so_far is = absurd so_far

more_each : (messages : List (List ℕ)) (message : List ℕ) → AllByRecursion IsMessage messages → IsMessage message → AllByRecursion IsMessage (messages ++ message ∷ [])
more_each [] message each is = (is, tt)
more_each (b ∷ messages) message each is = (each.0, more_each messages message each.1 is)

pub frame_size : (message more : List ℕ) → length (frame_bytes message ++ more) ≡ 4 + length message + length more
frame_size message more = grind (arith, common_steps)

pub after_frame : (message more rest : List ℕ) (used : ℕ) → rest ≡ frame_bytes message ++ more → used ≡ 4 + length message → drop used rest ≡ more
after_frame message more rest used e size =
    let n : 4 + length message ≡ length (frame_bytes message) = grind (arith, common_steps) in
    ap (λ k. drop k rest) (size ∙ n) ∙ ap (drop (length (frame_bytes message))) e ∙ drop-append_seam (frame_bytes message) more

past : (n : ℕ) (xs : List ℕ) → take (length xs - n) (drop n xs) ≡ drop n xs
past n xs = let h : length xs - n ≡ length (drop n xs) = sym (length-drop n xs) in rw h (take-length (drop n xs))

pub left_after : (message more rest : List ℕ) (used : ℕ) → rest ≡ frame_bytes message ++ more → used ≡ 4 + length message
    → more ≡ take (length rest - used) (drop used rest)
left_after message more rest used e size = sym (past used rest ∙ after_frame message more rest used e size)

module _ {D : Type 0} (clean : D → Type 0) (stands : D → Map → Type 0) where
  pub no_frames : (old : D) (bytes before : List ℕ) → RanOver clean stands old old bytes before before [] [] bytes []
  no_frames old bytes before = record {
    whole = refl;
    out = sym (append-nil (before ++ []) ∙ append-nil before);
    ran = record { each = tt; replied = tt; was_clean = λ h. h; run = λ h m stood. (m, refl, stood) };
  }

  -- a run ends with the last bytes
  pub ends_with : (old new : D) (bytes before middle after : List ℕ) (messages : List (List ℕ)) (replies : List Reply) (rest last : List ℕ)
      → RanOver clean stands old new bytes before middle messages replies rest [] → after ≡ middle ++ last
      → RanOver clean stands old new bytes before after messages replies rest last
  ends_with old new bytes before middle after messages replies rest last so_far e = record {
    whole = so_far.whole;
    out = e ∙ ap (λ m. m ++ last) (so_far.out ∙ append-nil (before ++ written replies));
    ran = so_far.ran;
  }

  pub ran_more : (old mid new : D) (messages : List (List ℕ)) (replies : List Reply) (frame : Frame) (message middle after : List ℕ) (r : Reply)
      → Ran clean stands old mid messages replies → IsMessage message → IsFrameOf frame message
      → Answered clean stands mid new frame.tag (request_meaning frame.request) middle after r
      → Ran clean stands old new (messages ++ message ∷ []) (replies ++ r ∷ [])
  ran_more old mid new messages replies frame message middle after r ran limit same answered = record {
    each = more_each messages message ran.each limit;
    replied = more_replies messages replies message r ran.replied (answered.tagged ∙ same.tag, answered.status, answered.short);
    was_clean = λ h. ran.was_clean (answered.was_clean h);
    run = λ h m stood.
        let so_far = ran.run (answered.was_clean h) m stood in
        let next = answered.step h so_far.0 so_far.2 in
        let back = answered.read_back h so_far.0 so_far.2 in (
          next.0,
          more_run m so_far.0 next.0 messages replies message r so_far.1 (subst (λ a. Step so_far.0 a next.0 r.status r.text) same.request next.1)
              (subst (λ a. ReadsBackFrom so_far.0 a r.status r.text) same.request back),
          next.2,
        );
  }

  -- one more frame
  pub one_more : (old mid new : D) (bytes before middle after : List ℕ) (messages : List (List ℕ)) (replies : List Reply) (rest : List ℕ)
      (frame : Frame) (message more : List ℕ) (r : Reply)
      → RanOver clean stands old mid bytes before middle messages replies rest []
      → Starts rest frame message more
      → Answered clean stands mid new frame.tag (request_meaning frame.request) middle after r
      → RanOver clean stands old new bytes before after (messages ++ message ∷ []) (replies ++ r ∷ []) more []
  one_more old mid new bytes before middle after messages replies rest frame message more r so_far starts answered = record {
    whole = so_far.whole ∙ ap (λ t. flat_map frame_bytes messages ++ t) starts.whole
        ∙ sym (append_assoc (flat_map frame_bytes messages) (frame_bytes message) more)
        ∙ ap (λ t. t ++ more) (ap (λ t. flat_map frame_bytes messages ++ t) (sym (append-nil (frame_bytes message))) ∙ sym (flat_map-append frame_bytes messages (message ∷ [])));
    out = answered.out ∙ ap (λ m. m ++ bytes_of r) (so_far.out ∙ append-nil (before ++ written replies))
        ∙ append_assoc before (written replies) (bytes_of r)
        ∙ ap (λ t. before ++ t) (ap (λ t. written replies ++ t) (sym (append-nil (bytes_of r))) ∙ sym (flat_map-append bytes_of replies (r ∷ [])))
        ∙ sym (append-nil (before ++ written (replies ++ r ∷ [])));
    ran = ran_more old mid new messages replies frame message middle after r so_far.ran starts.limit starts.same answered;
  }

  -- what a step told, written into room that was made first
  pub answered : (old inside new : D) (tag : ℕ) (asks : RequestMeaning) (before roomy after : List ℕ) (told : Result Answer Fault) (r : Reply)
      → roomy ≡ before → inside ≡ old → Says roomy after tag told r → (clean new → clean inside)
      → (clean new → (m : Map) → stands inside m → (later : Map) × Tells m asks later told × stands new later)
      → Answered clean stands old new tag asks before after r
  answered old inside new tag asks before roomy after told r same view says was_clean tells = record {
    out = says.out ∙ ap (λ t. t ++ bytes_of r) same;
    tagged = says.tagged;
    status = says.status;
    short = says.short;
    was_clean = λ h. subst clean view (was_clean h);
    step = λ h m stood.
        let did = tells h m (subst (λ d. stands d m) (sym view) stood) in
        (did.0, says.step m asks did.0 did.1, did.2);
    read_back = λ h m stood.
        let did = tells h m (subst (λ d. stands d m) (sym view) stood) in
        says.read_back m asks did.0 did.1;
  }
