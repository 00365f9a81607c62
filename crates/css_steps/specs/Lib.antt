pub mod Quotes
pub mod QuoteViews
pub mod Letters
