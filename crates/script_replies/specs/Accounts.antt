-- What the replies to a script say of each name.
use Rattle.std.specs.Prelude.{ℕ, List, [], map, set, slice_index_or, Option, Some, None}
use Rattle.std.specs.List.{AllByRecursion}
use Rattle.script_replies.specs.Prelude.{number_of, Act, Operator, Session, OperatorLine, Admit, Evict, Move, List as ListAll, Owners, Step, Take, Put, asked_in, AnsweredLine, names_of}
use Rattle.script_replies.specs.Present.{FileStates, files_after, files_of, no_files, states_of}
use Rattle.script_replies.specs.Usage.{IsWithin, is_refusal, usage_of, with_act}
use Rattle.script_replies.specs.declared.accounts.Account.{Account}
use Rattle.script_replies.specs.declared.usage.Usage.{Usage}

-- a name, what it used, and its files
pub record NameAccount : Type 0 where
  pub name : List ℕ
  pub usage : Usage
  pub files : FileStates

abbrev pub account_of : List ℕ → List (Act (List ℕ)) → List AnsweredLine → NameAccount
account_of name acts replies = record { name = name; usage = usage_of name acts replies; files = files_of name acts replies }

-- those of all sessions' names
abbrev pub accounts_of : List (Act (List ℕ)) → List AnsweredLine → List NameAccount
accounts_of acts replies = map (λ name. account_of name acts replies) (names_of (asked_in replies))

-- the value of an account
abbrev pub account_now : Account → NameAccount
account_now account = record { name = account.name.now; usage = account.usage; files = states_of account.files }

-- private: the account with one more act
abbrev pub account_after : Act (List ℕ) → List ℕ → NameAccount → NameAccount
account_after act reply account = record {
  name = account.name;
  usage = with_act account.name act (is_refusal reply) account.usage;
  files = files_after account.name act reply account.files;
}

-- private: the name in an act
abbrev pub operator_name : OperatorLine (List ℕ) → Option (List ℕ)
operator_name (Admit name columns) = Some name
operator_name (Evict name) = Some name
operator_name (Move name offset) = Some name
operator_name ListAll = None
operator_name Owners = None
operator_name (Step name count) = Some name
operator_name (Take name) = Some name
operator_name (Put number) = None

abbrev pub name_in : Act (List ℕ) → Option (List ℕ)
name_in (Operator line) = operator_name line
name_in (Session name line) = Some name

-- private: no act
abbrev pub no_usage : Usage
no_usage = record { columns = 0; lines = 0; refused = 0; jobs = 0; steps = 0 }

abbrev pub no_account : List ℕ → NameAccount
no_account name = record { name = name; usage = no_usage; files = no_files }

-- private: the accounts of these names with one more act, which changes that of the name in it
abbrev pub update_named : List (List ℕ) → Act (List ℕ) → List ℕ → List NameAccount → Option (List ℕ) → List NameAccount
update_named names act reply accounts None = accounts
update_named names act reply accounts (Some name) = set accounts (number_of names name) (account_after act reply (slice_index_or accounts (number_of names name) (no_account [])))

abbrev pub updated : List (List ℕ) → Act (List ℕ) → List ℕ → List NameAccount → List NameAccount
updated names act reply accounts = update_named names act reply accounts (name_in act)

-- private: their counts are below the limit
abbrev pub AreAccountsWithin : ℕ → List NameAccount → Type 0
AreAccountsWithin limit accounts = AllByRecursion (λ account. IsWithin limit account.usage) accounts
