mod Books
mod Tables
