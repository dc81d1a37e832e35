-- From one frame taken, answered and its reply given to a whole service.
use Rattle.std.proofs.Common.{◌≡◌, ℕ, ◌+◌, ◌<◌, List, [], ◌∷◌, ◌++◌, length, refl, sym, ◌∙◌, ap, subst, arith, inl, inr, Option}
use Rattle.std.proofs.lemmas.List.{append-nil}
use Rattle.std.proofs.lemmas.Grind.{flat_map-append, common_steps}
use Rattle.std.proofs.KnownBytes.{Consumes-nil, Consumes-trans, Appends-nil, Appends-trans}
use Rattle.std.specs.Io.KnownBytes.{Consumes, Appends}
use Rattle.std.specs.List.{flat_map}
use Rattle.xq_frame.specs.Frame.{frame_bytes, IsMessage}
use Rattle.xq_frame.specs.Next.{IsFrameOf}
use Rattle.xq_frame.specs.Request.{request_meaning}
use Rattle.xq_frame.specs.declared.frames.Frame.{Frame}
use Rattle.xq_tables.specs.Documents.{Map}
use Rattle.xq_frame.specs.Taking.{IsLongHead}
use Rattle.xq_server.specs.Run.{Reply, bytes_of, written, Answered, long_reply}
use Rattle.xq_server.specs.Service.{BearsFew, Served, Serves, BreaksOff}
use Rattle.xq_server.specs.private.Ends.{EndsLong}
use Rattle.xq_server.specs.declared.ends.End.{End}
use Rattle.xq_server.specs.declared.ends.End.TheVariants.{Finished, Cut, TooLong, Bound, ReadFault, WriteFault, NoRoom}
use Rattle.xq_server.proofs.Running.{ran_more}

pub written_more : (replies : List Reply) (r : Reply) → written (replies ++ r ∷ []) ≡ written replies ++ bytes_of r
written_more replies r = flat_map-append bytes_of replies (r ∷ []) ∙ ap (λ t. written replies ++ t) (append-nil (bytes_of r))

frames_more : (messages : List (List ℕ)) (message : List ℕ) → flat_map frame_bytes (messages ++ message ∷ []) ≡ flat_map frame_bytes messages ++ frame_bytes message
frames_more messages message = flat_map-append frame_bytes messages (message ∷ []) ∙ ap (λ t. flat_map frame_bytes messages ++ t) (append-nil (frame_bytes message))

pub one_longer : (messages : List (List ℕ)) (message : List ℕ) (n : ℕ) → length messages ≡ n → length (messages ++ message ∷ []) ≡ n + 1
one_longer messages message n e = grind (arith, common_steps)

-- what was given of a reply that was written into an empty buffer
pub sent_front : (slice items before reply sent unsent : List ℕ) → slice ≡ items → items ≡ before ++ reply → before ≡ [] → slice ≡ sent ++ unsent
    → reply ≡ sent ++ unsent
sent_front slice items before reply sent unsent value out none split = sym (value ∙ out ∙ ap (λ b. b ++ reply) none) ∙ split

pub sent_whole : (slice items before reply : List ℕ) → slice ≡ items → items ≡ before ++ reply → before ≡ [] → slice ≡ reply
sent_whole slice items before reply value out none = value ∙ out ∙ ap (λ b. b ++ reply) none

-- all replies but the last were given, and a front of that
pub broken_off : (replies : List Reply) (r : Reply) (sent unsent : List ℕ) → bytes_of r ≡ sent ++ unsent → BreaksOff (replies ++ r ∷ []) [] (written replies ++ sent)
broken_off replies r sent unsent e = inl (refl, (replies, r, refl, (sent, (unsent, e), refl)))

pub all_sent : (replies : List Reply) (r : Reply) (sent : List ℕ) → sent ≡ bytes_of r → written replies ++ sent ≡ written (replies ++ r ∷ [])
all_sent replies r sent e = ap (λ t. written replies ++ t) e ∙ sym (written_more replies r)

module _ {D : Type 0} (clean : D → Type 0) (stands : D → Map → Type 0) where
  pub served_none : (old : D) (left held : Option (List ℕ)) → Served clean stands old old left left held held [] [] [] []
  served_none old left held = record {
    taken = Consumes-nil left;
    given = Appends-nil held;
    ran = record { each = tt; replied = tt; was_clean = λ h. h; run = λ h m stood. (m, refl, stood) };
  }

  -- more was taken, and more was given
  pub served_on : (old new : D) (before left left' held holding holding' : Option (List ℕ)) (messages : List (List ℕ)) (replies : List Reply) (taken sent : List ℕ)
      → Served clean stands old new before left held holding messages replies [] (written replies)
      → Consumes left left' taken → Appends holding holding' sent
      → Served clean stands old new before left' held holding' messages replies taken (written replies ++ sent)
  served_on old new before left left' held holding holding' messages replies taken sent so_far took gave = record {
    taken = subst (λ f. Consumes before left' (f ++ taken)) (append-nil (flat_map frame_bytes messages))
        (Consumes-trans before left left' (flat_map frame_bytes messages ++ []) taken so_far.taken took);
    given = Appends-trans held holding holding' (written replies) sent so_far.given gave;
    ran = so_far.ran;
  }

  pub served_taken : (old new : D) (before left left' held holding : Option (List ℕ)) (messages : List (List ℕ)) (replies : List Reply) (taken : List ℕ)
      → Served clean stands old new before left held holding messages replies [] (written replies)
      → Consumes left left' taken
      → Served clean stands old new before left' held holding messages replies taken (written replies)
  served_taken old new before left left' held holding messages replies taken so_far took =
      subst (Served clean stands old new before left' held holding messages replies taken) (append-nil (written replies))
      (served_on old new before left left' held holding holding messages replies taken [] so_far took (Appends-nil holding))

  -- a frame was taken and answered, and its reply, or a front of it, was given
  pub served_more : (old mid new : D) (before left left' held holding holding' : Option (List ℕ)) (messages : List (List ℕ)) (replies : List Reply)
      (frame : Frame) (message taken middle after sent : List ℕ) (r : Reply)
      → Served clean stands old mid before left held holding messages replies [] (written replies)
      → Consumes left left' taken → IsMessage message → taken ≡ frame_bytes message → IsFrameOf frame message
      → Answered clean stands mid new frame.tag (request_meaning frame.request) middle after r
      → Appends holding holding' sent
      → Served clean stands old new before left' held holding' (messages ++ message ∷ []) (replies ++ r ∷ []) [] (written replies ++ sent)
  served_more old mid new before left left' held holding holding' messages replies frame message taken middle after sent r so_far took limit whole same answered gave =
      let on = served_on old mid before left left' held holding holding' messages replies taken sent so_far took gave in
      record {
        taken = subst (Consumes before left') (ap (λ t. flat_map frame_bytes messages ++ t) whole ∙ sym (frames_more messages message)
            ∙ sym (append-nil (flat_map frame_bytes (messages ++ message ∷ [])))) on.taken;
        given = on.given;
        ran = ran_more clean stands old mid new messages replies frame message middle after r so_far.ran limit same answered;
      }

  -- a length over the limit
  pub serves_long : (old new : D) (before left left' held holding holding' : Option (List ℕ)) (messages : List (List ℕ)) (replies : List Reply) (taken : List ℕ) (bound : ℕ) (end : End)
      → Served clean stands old new before left held holding messages replies [] (written replies)
      → Consumes left left' taken → IsLongHead taken → length messages < bound → EndsLong holding holding' end
      → (interrupted later : ℕ) → BearsFew bound (length messages) interrupted later
      → Serves clean stands old new before left' held holding' bound interrupted later end
  serves_long old new before left left' held holding holding' messages replies taken bound TooLong so_far took long below ends interrupted later few = (
    messages,
    replies,
    taken,
    written replies ++ long_reply,
    (served_on old new before left left' held holding holding' messages replies taken long_reply so_far took ends, (long, refl, below), few),
  )
  serves_long old new before left left' held holding holding' messages replies taken bound WriteFault so_far took long below ends interrupted later few =
      let sent = ends.0 in (
        messages,
        replies,
        taken,
        written replies ++ sent,
        (
          served_on old new before left left' held holding holding' messages replies taken sent so_far took ends.2,
          (inr (long, (sent, (ends.1, ends.3), refl)), omega (arith, below)),
          few,
        ),
      )
  serves_long old new before left left' held holding holding' messages replies taken bound NoRoom so_far took long below ends interrupted later few = (
    messages,
    replies,
    taken,
    written replies ++ [],
    (served_on old new before left left' held holding holding' messages replies taken [] so_far took ends, (inr (inr long), append-nil (written replies), below), few),
  )
  serves_long old new before left left' held holding holding' messages replies taken bound Finished so_far took long below ends interrupted later few = absurd ends
  serves_long old new before left left' held holding holding' messages replies taken bound Cut so_far took long below ends interrupted later few = absurd ends
  serves_long old new before left left' held holding holding' messages replies taken bound Bound so_far took long below ends interrupted later few = absurd ends
  serves_long old new before left left' held holding holding' messages replies taken bound ReadFault so_far took long below ends interrupted later few = absurd ends
