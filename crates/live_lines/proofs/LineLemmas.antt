-- A line that was taken, by what it asks.
use Rattle.live_lines.proofs.Prelude.{◌≡◌, ℕ, List, [], ◌∷◌, false, true, Option, Some, None, codes, decimal, refl, subst, append-nil, arith, Appends, Appends-nil, OperatorLine, SessionLine, Stage, answer_told, output_of, tagged_text, Asked, HasTag, LiveState, TakesItem, TakesLine, TakesOperator, TellsFigures, operator_told, told_by, Bor, LineRequest as AskedIn, Echoes, Figures, NoForm, Nothing, Operates, Says, Basis, ServiceState, HeldList, HearsLine, Texts, no_texts}
use Rattle.live_lines.specs.declared.asked.LineRequest.TheVariants.{Says as SaysIn}

-- what it asks may be named by another term
pub takes_as : (old : LiveState) (number : ℕ) (tag : List ℕ) (what asked : Asked) (before after : Option (List ℕ)) (new : LiveState) → what ≡ asked → TakesLine old number tag asked before after new → TakesLine old number tag what before after new
takes_as old number tag what asked before after new same takes = grind arith

pub takes_nothing : (old : LiveState) (number : ℕ) (tag : List ℕ) (known : Option (List ℕ)) → TakesLine old number tag Nothing known known old
takes_nothing old number tag known = record { tellings = []; told = []; takes = (refl, refl, refl); writes = Appends-nil known }

pub takes_no_form : (old : LiveState) (number : ℕ) (tag : List ℕ) (before after : Option (List ℕ)) → Appends before after (tagged_text (codes "?") (decimal number)) → TakesLine old number tag NoForm before after old
takes_no_form old number tag before after writes = grind (arith, append-nil)

pub takes_echo : (old : LiveState) (number : ℕ) (tag words : List ℕ) (before after : Option (List ℕ)) → Appends before after (output_of (told_by false words)) → TakesLine old number tag (Echoes words) before after old
takes_echo old number tag words before after writes = record { tellings = []; told = told_by false words; takes = (refl, refl, refl); writes = writes }

pub takes_figures : (old : LiveState) (number : ℕ) (tag : List ℕ) (before after : Option (List ℕ)) → TellsFigures old.stage number before after → TakesLine old number tag Figures before after old
takes_figures old number tag before after (text, are, writes) = record { tellings = []; told = told_by true text; takes = (text, are, refl, refl, refl); writes = writes }

pub takes_operator : (old new : Stage) (texts new_texts : Texts) (number : ℕ) (tag : List ℕ) (line : OperatorLine (List ℕ)) (before after : Option (List ℕ)) → new_texts ≡ texts → TakesOperator old line before after new →
    TakesLine (record { stage = old; texts = texts }) number tag (Operates line) before after (record { stage = new; texts = new_texts })
takes_operator old new texts new_texts number tag line before after same t = record {
  tellings = t.telling ∷ [];
  told = operator_told line (t.telling).text;
  takes = (t.telling, t.act, t.answered, refl, refl, same);
  writes = t.writes;
}

hears_as : (old new next : Texts) (name line : List ℕ) (item other : Option SessionLine) → item ≡ other → next ≡ new → HearsLine old name line item new → HearsLine old name line other next
hears_as old new next name line item other same texts hears = grind arith

pub takes_item : (old new : Stage) (texts heard new_texts : Texts) (number : ℕ) (tag name line : List ℕ) (found : Option SessionLine) (item : SessionLine) (before after : Option (List ℕ)) → found ≡ Some item → new_texts ≡ heard → HearsLine texts name line found heard →
    TakesItem old tag name item before after new → TakesLine (record { stage = old; texts = texts }) number tag (Says name line) before after (record { stage = new; texts = new_texts })
takes_item old new texts heard new_texts number tag name line found item before after is same hears t = record {
  tellings = t.telling ∷ [];
  told = answer_told tag (t.telling).text;
  takes = (Some item, hears_as texts heard new_texts name line found (Some item) is same hears, (t.telling, t.act, t.answered, refl, refl));
  writes = t.writes;
}

pub takes_none : (old : Stage) (texts heard : Texts) (number : ℕ) (tag name line : List ℕ) (found : Option SessionLine) (known : Option (List ℕ)) → found ≡ None → HearsLine texts name line found heard →
    TakesLine (record { stage = old; texts = texts }) number tag (Says name line) known known (record { stage = old; texts = heard })
takes_none old texts heard number tag name line found known is hears = record {
  tellings = [];
  told = [];
  takes = (None, hears_as texts heard heard name line found None is refl hears, (refl, refl, refl));
  writes = Appends-nil known;
}

-- what a name says has its line's tag
pub own_tag : {request : AskedIn} {tag name rest : Bor (List ℕ)} {line : List ℕ} → request ≡ SaysIn tag name rest → HasTag line request → tag.now ≡ line
own_tag {line = line} is has = let P : AskedIn → Type 0 = λ a. HasTag line a in subst P is has

-- a service that begins
pub starts_as : (names : List (List ℕ)) (jobs : HeldList) (service : ServiceState) (graph : Basis) (texts : Texts) → names ≡ [] → jobs ≡ [] → texts ≡ no_texts →
    ◌≡◌ {A = LiveState} (record { stage = record { names = names; jobs = jobs; service = service; graph = graph }; texts = texts }) (record { stage = record { names = []; jobs = []; service = service; graph = graph }; texts = no_texts })
starts_as names jobs service graph texts none no_jobs nothing = grind arith
