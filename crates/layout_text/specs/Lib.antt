pub mod LayoutText
