mod Prelude
mod FaultLemmas
mod FormLemmas
mod SaysLemmas
mod TextLemmas
