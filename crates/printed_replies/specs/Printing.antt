-- What is printed for lines and their replies, and the claim that it is read back.
use Rattle.std.specs.Prelude.{ℕ, ◌≡◌, Bool, true, false, if◌then◌else◌, List, [], ◌∷◌, ◌++◌, length, map, flat_map, Some, None, Ok, ⊤}
use Rattle.printed_replies.specs.declared.asked.ReplyForm.{ReplyForm}
use Rattle.printed_replies.specs.Lengths.{reply_length}
use Rattle.printed_replies.specs.Replies.{AnsweredLine, AskedLine, Speaker, heading, is_of, live_after, names_of, replies_in}

-- the replies to a speaker's lines, one after the other
abbrev pub told_to : Speaker → List AnsweredLine → List ℕ
told_to speaker lines = flat_map (λ line. if is_of speaker line.asked.speaker then line.reply else []) lines

abbrev pub section_of : Speaker → List AnsweredLine → List ℕ
section_of speaker lines = heading speaker ++ told_to speaker lines

abbrev pub asked_in : List AnsweredLine → List AskedLine
asked_in lines = map (λ line. line.asked) lines

-- the operator's section, and after it those of the names in the order of their first lines
abbrev pub printed_for : List AnsweredLine → List ℕ
printed_for lines = section_of None lines ++ flat_map (λ name. section_of (Some name) lines) (names_of (asked_in lines))

-- a text is a reply of that form, while `live` tenancies are live: whatever comes after it, exactly
-- its length is read
abbrev pub IsReply : ℕ → ReplyForm → List ℕ → Type 0
IsReply live form text = (rest : List ℕ) → reply_length live form (text ++ rest) ≡ Some (length text)

-- a line has a reply of its form, if it is the speaker's
abbrev pub HasReply : Bool → ℕ → AnsweredLine → (ℕ → Type 0) → Type 0
HasReply true live line More = IsReply live line.asked.form line.reply × More (live_after live line.asked.form line.reply)
HasReply false live line More = More live

-- a speaker's lines have replies of their forms
abbrev pub HaveReplies : Speaker → ℕ → List AnsweredLine → Type 0
HaveReplies speaker live [] = ⊤
HaveReplies speaker live (line ∷ lines) = HasReply (is_of speaker line.asked.speaker) live line (λ next. HaveReplies speaker next lines)

-- what is printed for lines with replies of their forms is read back, whatever the replies contain
abbrev pub IsReadBack : List AnsweredLine → Type 0
IsReadBack lines = ((speaker : Speaker) → HaveReplies speaker 0 lines) → replies_in (asked_in lines) (printed_for lines) ≡ Ok lines
